use Rattle.std.proofs.Common.{◌<◌, ◌%◌, [], length, le-leb, arith, ◌∙◌}
use Rattle.std.proofs.Math.Dec.{leb}
use Rattle.std.proofs.lemmas.Bool.{and_left, and_parts}
use Rattle.bc_flow.specs.Packed.{is_set}
use Rattle.bc_flow.proofs.Joined.{is_set_and}
use Rattle.bc_flow.proofs.Rows.{sizes_kept}
use Rattle.bc_loans.specs.Flows.{inside}
use Rattle.bc_loans.proofs.Sweeping.{pushed_along, second_false, AreReached-joined}
use Rattle.bc_loans.proofs.sweeps.Sweep.enter.Goals as goal

pub word_at-inside-requires-clause-point : goal.word_at-inside-requires-clause-point
word_at-inside-requires-clause-point c = omega (arith, c.requires.to, c.requires.sweep.ready.long)

pub join_word-grown-requires-clause-within : goal.join_word-grown-requires-clause-within
join_word-grown-requires-clause-within c = omega (arith, c.requires.word, c.requires.sweep.ready.rows c.args.edge.to [] (omega (arith, c.requires.to, c.requires.sweep.ready.points)))

pub join_word-grown-requires-clause-clean : goal.join_word-grown-requires-clause-clean
join_word-grown-requires-clause-clean c = λ i at past.
    is_set_and c.args.here _ (i % 64) ∙ and_left (is_set c.args.here (i % 64)) _ (c.requires.clean i at (omega (arith, past, c.requires.sweep.ready.rows c.args.edge.to [] (omega (arith, c.requires.to, c.requires.sweep.ready.points)))))

pub note-requires-clause-point : goal.note-requires-clause-point
note-requires-clause-point c = omega (arith, c.requires.to, c.requires.sweep.set.size)

pub note-requires-clause-set : goal.note-requires-clause-set
note-requires-clause-set c = c.requires.sweep.set.some

pub returns : goal.returns
returns c =
    let flow = c.args.flow.now in
    let sweep = c.requires.sweep in
    let joined = c.join_word-grown.ensures in
    let to : c.args.edge.to < length c.args.self.now.rows = omega (arith, c.requires.to, sweep.ready.points) in
    record {
      sweep = record {
        ready = record {
          points = joined.added.rows ∙ sweep.ready.points;
          rows = sizes_kept (length flow.set.loans.now) c.args.self.now.rows c.join_word-grown.new.self c.args.edge.to joined.added.rows joined.added.others joined.added.size sweep.ready.rows;
          long = c.word_at-inside.ensures.size ∙ sweep.ready.long;
        };
        told = c.word_at-inside.ensures.told;
        set = rw sweep.set.size at c.note.ensures.set;
        reached = AreReached-joined c.args.word c.args.self.now.rows c.join_word-grown.new.self c.args.self.now.reached c.note.new.reached c.args.edge.to c.join_word-grown.result sweep.reached joined.added.others
            joined.unchanged c.note.ensures.kept c.note.ensures.noted;
      };
      pushed = pushed_along c.args.edge.from c.args.edge.to c.args.word c.args.here _ (inside flow) c.join_word-grown.result _ c.args.self.now.rows c.join_word-grown.new.self to c.word_at-inside.ensures.here
          joined.added joined.unchanged joined.grown (λ is. (and_parts (leb c.args.edge.to c.args.edge.from) c.join_word-grown.result is).1)
          (λ none low. second_false (leb c.args.edge.to c.args.edge.from) c.join_word-grown.result (le-leb c.args.edge.to c.args.edge.from low) none);
    }
