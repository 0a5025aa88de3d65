-- Sections that are written one after another.
use Rattle.std.proofs.Common.{◌≡◌, ℕ, List, ◌∷◌, ◌++◌, Option, sym, ap, ◌∙◌, append_assoc}
use Rattle.std.specs.Io.KnownBytes.{Appends}
use Rattle.std.proofs.KnownBytes.{Appends-trans}
use Rattle.bc_calls.specs.declared.call.Call.{Call}
use Rattle.cli_file.specs.Parts.{Part}
use Rattle.cli_print.specs.Printed.{section_text, file_text}

-- of all sections, those that are not left were written
pub record Writing (all left : List Part) (made rest : List Call) (before after : Option (List ℕ)) : Type 0 where
  pub text : List ℕ
  pub whole : file_text all made ≡ text ++ file_text left rest
  pub written : Appends before after text

-- one more section
pub writing_more : (all left later : List Part) (made rest others : List Call) (section : Part) (call : Call) (a b c : Option (List ℕ))
    → Writing all left made rest a b → left ≡ section ∷ later → rest ≡ call ∷ others → Appends b c (section_text section.header call) → Writing all later made others a c
writing_more all left later made rest others section call a b c h next first one = record {
  text = h.text ++ section_text section.header call;
  whole = h.whole ∙ ap (λ (l : List Part). h.text ++ file_text l rest) next ∙ ap (λ (l : List Call). h.text ++ file_text (section ∷ later) l) first ∙ sym (append_assoc h.text (section_text section.header call) (file_text later others));
  written = Appends-trans a b c h.text (section_text section.header call) h.written one;
}
