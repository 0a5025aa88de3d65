use Rattle.std.proofs.Common.{length, sym, ◌∙◌, arith}
use Rattle.std.proofs.lemmas.List.{drop_all}
use Rattle.cli_file.proofs.Feeds.{slice_to_end, found_feed, found_none, cut_behind}
use Rattle.cli_file.proofs.section.cut_line.Goals as goal

pub returns-in-Some-clause-line : goal.returns-in-Some-clause-line
returns-in-Some-clause-line c = sym (found_feed c.args.text.now c.in-Some.end c.in-Some.ensures).line

pub returns-in-Some-clause-rest : goal.returns-in-Some-clause-rest
returns-in-Some-clause-rest c = cut_behind c.args.text.now c.in-Some.end c.in-Some.ensures

pub returns-in-None-clause-line : goal.returns-in-None-clause-line
returns-in-None-clause-line c = sym (found_none c.args.text.now c.in-None.ensures).line

pub returns-in-None-clause-rest : goal.returns-in-None-clause-rest
returns-in-None-clause-rest c =
    let text = c.args.text.now in
    slice_to_end text (length text) ∙ drop_all (length text) text (omega arith) ∙ sym (found_none text c.in-None.ensures).rest
