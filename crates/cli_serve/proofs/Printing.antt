-- What a conversation printed, from what its pens printed and what the log has of them.
use Rattle.std.proofs.Common.{◌≡◌, ℕ, ◌<◌, List, length, get_or, Option, ap, sym, ◌∙◌, subst, arith}
use Rattle.bc_calls.specs.declared.call.Entry.{Entry}
use Rattle.cli_output.specs.Logs.{texts_of}
use Rattle.cli_output.specs.Pens.{PenView}
use Rattle.cli_serve.specs.Talked.{AreAllTold, IsWholeBy}
use Rattle.cli_serve.specs.Served.{IsServed}
use Rattle.cli_serve.specs.Printed.{HasServed, IsAllOf, IsPrinted}

-- a pen about which nothing is known
blank : PenView
blank = record { number = 0; texts = Rattle.std.proofs.Common.[] }

pub printed : (sessions : ℕ) (known : Option (List (List ℕ))) (history : List Entry) (pens : List PenView) (router : PenView) (before after : Option (List ℕ)) → HasServed sessions known history pens router → IsAllOf sessions pens router before after → IsPrinted sessions known history before after
printed sessions known history pens router before after h all = record {
  ended = h.ended;
  sized = h.sized;
  agrees = h.agrees;
  log = all.log;
  answers = λ k d low.
      (let own : (get_or pens k blank).number ≡ k = h.numbered k blank (let n = h.counted in omega (arith, n, low)) in
      let texts : (get_or pens k blank).texts ≡ texts_of k all.log = all.each k blank (let n = h.counted in omega (arith, n, low)) ∙ ap (λ (n : ℕ). texts_of n all.log) own in
      subst (IsWholeBy sessions k known (get_or h.ended k d)) texts (h.whole k d blank (let n = h.sized in omega (arith, n, low))));
  told = subst (AreAllTold sessions known) (all.last ∙ ap (λ (n : ℕ). texts_of n all.log) h.last) h.told;
  only = all.only;
  written = all.written;
}

pub served : (sessions : ℕ) (known : Option (List (List ℕ))) (history : List Entry) (before after : Option (List ℕ)) → IsPrinted sessions known history before after → IsServed sessions known history
served sessions known history before after p = record {
  ended = p.ended;
  sized = p.sized;
  whole = λ k d below.
      (let h = p.answers k d (let n = p.sized in omega (arith, n, below)) in record { lines = h.lines; all = h.all; texts = texts_of k p.log; turns = h.turns });
  agrees = p.agrees;
}
