use Rattle.std.proofs.Common.{◌≡◌, arith, ap, sym, subst, ◌∙◌, None, Some}
use Rattle.std.specs.BTreeMap.{is_at}
use Rattle.bc_names.specs.Names.{name_order}
use Rattle.bc_prov.specs.State.{Suits, at_name}
use Rattle.bc_memo.specs.declared.change.Change.{Change}
use Rattle.bc_memo.specs.declared.change.Change.TheVariants.{Types, Put, Remove, Answer, Answers}
use Rattle.bc_memo.specs.Places.{Places, ShelfRoom, ShelfView, AreKept, AreOrdered, IsReady, MayChange, answer_of, changed, cleared, marked, written}
use Rattle.bc_prov.specs.Outcome.{OutcomeRows}
use Rattle.bc_memo.proofs.Places.{ordered-put, ordered-take}
use Rattle.bc_memo.proofs.Marking.{bare_put, bare_take, changed_nothing, kept-with_answer_at, kept-cleared, kept-marked, kept-put, kept-take, kept-unanswered, marked_answer, marked_put, marked_remove}
use Rattle.bc_memo.proofs.shelf.Shelf.change.Goals as goal

pub invariant_of-self : goal.invariant_of-self
invariant_of-self c = subst (λ (ps : Places). AreKept ps) (sym c.clear_all.ensures.places) (kept-unanswered c.self.inside.places.items c.self.invariant)

pub clear-requires-clause-ordered : goal.clear-requires-clause-ordered
clear-requires-clause-ordered c = subst (λ (ps : Places). AreOrdered ps) (sym c.put.ensures.rows) (ordered-put c.in-Put.name (written c.in-Put.unit c.args.revision) c.self.inside.places.items c.self.invariant.ordered)

pub clear-requires-in-Remove-clause-ordered : goal.clear-requires-in-Remove-clause-ordered
clear-requires-in-Remove-clause-ordered c = subst (λ (ps : Places). AreOrdered ps) (sym c.take.ensures.rows) (ordered-take (is_at (name_order c.in-Remove.name)) c.self.inside.places.items c.self.invariant.ordered)

pub clear-requires-clause-bare : goal.clear-requires-clause-bare
clear-requires-clause-bare c =
    let n = c.in-Put.name in
    subst (λ (ps : Places). answer_of (at_name ps n) ≡ None) (sym c.put.ensures.rows) (bare_put n c.in-Put.unit c.args.revision c.self.inside.places.items)

pub clear-requires-in-Remove-clause-bare : goal.clear-requires-in-Remove-clause-bare
clear-requires-in-Remove-clause-bare c =
    let n = c.in-Remove.name in
    subst (λ (ps : Places). answer_of (at_name ps n) ≡ None) (sym c.take.ensures.rows) (bare_take n c.self.inside.places.items c.self.invariant.ordered)

pub invariant_of-self-in-Put : goal.invariant_of-self-in-Put
invariant_of-self-in-Put c =
    let ps = c.self.inside.places.items in
    let suits : Suits c.in-Put.unit c.in-Put.name = subst (λ (ch : Change). MayChange ch) c.in-Put.is c.requires.suited in
    subst (λ (qs : Places). AreKept qs) (sym (c.clear.ensures.places ∙ ap (λ (qs : Places). cleared c.in-Put.name qs) c.put.ensures.rows))
    (kept-cleared c.in-Put.name _ (kept-put c.in-Put.name (written c.in-Put.unit c.args.revision) ps suits c.self.invariant))

pub invariant_of-self-in-Remove : goal.invariant_of-self-in-Remove
invariant_of-self-in-Remove c =
    let ps = c.self.inside.places.items in
    subst (λ (qs : Places). AreKept qs) (sym (c.clear-in-Remove.ensures.places ∙ ap (λ (qs : Places). cleared c.in-Remove.name qs) c.take.ensures.rows))
    (kept-cleared c.in-Remove.name _ (kept-take (is_at (name_order c.in-Remove.name)) ps c.self.invariant))

pub invariant_of-self-in-Answer : goal.invariant_of-self-in-Answer
invariant_of-self-in-Answer c =
    subst (λ (qs : Places). AreKept qs) (sym c.set_answer.ensures.places) (kept-with_answer_at c.in-Answer.name (Some c.in-Answer.outcome) c.self.inside.places.items c.self.invariant)

pub invariant_of-self-in-Answers : goal.invariant_of-self-in-Answers
invariant_of-self-in-Answers c =
    let rows : OutcomeRows = c.self.inside.ready.items in
    subst (λ (qs : Places). AreKept qs) (sym c.set_answers.ensures.places) (kept-marked (Answers rows) c.self.inside.places.items c.self.invariant)

pub returns-in-Types-clause-held : goal.returns-in-Types-clause-held
returns-in-Types-clause-held c =
    let F : Places → ShelfView = λ ps. record { types = c.in-Types.types; types_revision = c.args.revision; places = ps } in
    ap F c.clear_all.ensures.places
    ∙ ap (λ (s : ShelfRoom). changed s.held (Types c.in-Types.types) c.args.revision) c.self.view_is
    ∙ ap (λ (ch : Change). changed c.args.self.now.held ch c.args.revision) (sym c.in-Types.is)

pub returns-in-Put-clause-held : goal.returns-in-Put-clause-held
returns-in-Put-clause-held c =
    let i = c.self.inside in
    let F : Places → ShelfView = λ ps. record { types = i.types; types_revision = i.types_revision; places = ps } in
    ap F (c.clear.ensures.places ∙ ap (λ (qs : Places). cleared c.in-Put.name qs) c.put.ensures.rows ∙ marked_put c.in-Put.name c.in-Put.unit _)
    ∙ ap (λ (s : ShelfRoom). changed s.held (Put c.in-Put.name c.in-Put.unit) c.args.revision) c.self.view_is
    ∙ ap (λ (ch : Change). changed c.args.self.now.held ch c.args.revision) (sym c.in-Put.is)

pub returns-in-Remove-clause-held : goal.returns-in-Remove-clause-held
returns-in-Remove-clause-held c =
    let i = c.self.inside in
    let F : Places → ShelfView = λ ps. record { types = i.types; types_revision = i.types_revision; places = ps } in
    ap F (c.clear-in-Remove.ensures.places ∙ ap (λ (qs : Places). cleared c.in-Remove.name qs) c.take.ensures.rows ∙ marked_remove c.in-Remove.name _)
    ∙ ap (λ (s : ShelfRoom). changed s.held (Remove c.in-Remove.name) c.args.revision) c.self.view_is
    ∙ ap (λ (ch : Change). changed c.args.self.now.held ch c.args.revision) (sym c.in-Remove.is)

pub returns-in-Answer-clause-held : goal.returns-in-Answer-clause-held
returns-in-Answer-clause-held c =
    let i = c.self.inside in
    let F : Places → ShelfView = λ ps. record { types = i.types; types_revision = i.types_revision; places = ps } in
    ap F (c.set_answer.ensures.places ∙ marked_answer c.in-Answer.name c.in-Answer.outcome _)
    ∙ ap (λ (s : ShelfRoom). changed s.held (Answer c.in-Answer.name c.in-Answer.outcome) c.args.revision) c.self.view_is
    ∙ ap (λ (ch : Change). changed c.args.self.now.held ch c.args.revision) (sym c.in-Answer.is)

pub returns-in-Answers-clause-held : goal.returns-in-Answers-clause-held
returns-in-Answers-clause-held c =
    let i = c.self.inside in
    let F : Places → ShelfView = λ ps. record { types = i.types; types_revision = i.types_revision; places = ps } in
    let ready : c.args.self.now.ready ≡ c.in-Answers.field-0 = subst (λ (ch : Change). IsReady ch c.args.self.now.ready) c.in-Answers.is c.requires.ready in
    let same : i.ready.items ≡ c.in-Answers.field-0 = ap (λ (s : ShelfRoom). s.ready) c.self.view_is ∙ ready in
    ap F (c.set_answers.ensures.places ∙ ap (λ (rows : OutcomeRows). marked (Answers rows) i.places.items) same)
    ∙ ap (λ (s : ShelfRoom). changed s.held (Answers c.in-Answers.field-0) c.args.revision) c.self.view_is
    ∙ ap (λ (ch : Change). changed c.args.self.now.held ch c.args.revision) (sym c.in-Answers.is)

pub returns-clause-held : goal.returns-clause-held
returns-clause-held c = changed_nothing c.args.self.now.held c.args.revision ∙ ap (λ (ch : Change). changed c.args.self.now.held ch c.args.revision) (sym c.in-Nothing.is)

pub returns-in-Put-clause-memory : goal.returns-in-Put-clause-memory
returns-in-Put-clause-memory c =
    let new = c.clear.new.places in
    let old = c.self.inside.places in
    rw (← c.self.view_is) (omega (arith, new.ok.0, new.ok.1, old.ok.0, old.ok.1, c.clear.ensures.memory, c.put.ensures.memory))
