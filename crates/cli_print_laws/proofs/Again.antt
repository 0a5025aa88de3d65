-- Printed files make the calls of the files from which they were printed.
use Rattle.std.proofs.Common.{◌≡◌, ℕ, ◌+◌, ◌≤◌, true, false, List, [], ◌∷◌, ◌++◌, length, refl, sym, ap, ◌∙◌, subst, append_assoc}
use Rattle.std.proofs.lemmas.List.Elements.{All-head, All-tail}
use Rattle.bc_syntax.specs.declared.syntax.UnitKind.{UnitKind}
use Rattle.bc_syntax.specs.declared.syntax.UnitKind.TheVariants.{Function, Closure}
use Rattle.bc_syntax.specs.declared.syntax.Declaration.{Declaration}
use Rattle.bc_syntax.specs.declared.syntax.Declaration.TheVariants as declarations
use Rattle.bc_syntax.specs.Symbol.{text}
use Rattle.bc_syntax.specs.Token.{Token}
use Rattle.bc_syntax.specs.Spelling as spell
use Rattle.bc_text.proofs.UnitLaws.{read_found}
use Rattle.bc_text.proofs.DeclarationLaws.{types_found}
use Rattle.bc_print.specs.Printing.{texts}
use Rattle.bc_text_laws.specs.Laws.{PrintedIsRead, PrintedTypesAreRead}
use Rattle.bc_text_laws.proofs.Whole.{unit_is_whole, types_are_whole}
use Rattle.bc_calls.specs.declared.call.Call.{Call}
use Rattle.bc_calls.specs.declared.call.Call.TheVariants as calls
use Rattle.cli_file.specs.Parts.{Part, is_header, sections_of, lines_of}
use Rattle.cli_file.specs.Changes.{Makes, MakeAll}
use Rattle.cli_print.specs.Printed.{text_of, section_text, file_text}
use Rattle.cli_print_laws.specs.Laws.{AreShort, PrintedFilesAreRead, PrintedFilesArePrintedAlike}
use Rattle.cli_print_laws.proofs.Ink.{IsInk, texts_ink}
use Rattle.cli_print_laws.proofs.Cutting.{LinePair, IsLinePair, AreLinePairs, InkHeaders, put, anew, put_sections, sections_ink}

-- what a call stores, without its line feed
abbrev words_of : Call → List ℕ
words_of (calls.Types ds) = texts (spell.types ds)
words_of (calls.Put name u) = texts (spell.unit u)
words_of (calls.Remove name) = []
words_of (calls.Ask name) = []
words_of calls.All = []

abbrev pieces : List Part → List Call → List LinePair
pieces [] made = []
pieces (section ∷ sections) [] = []
pieces (section ∷ sections) (one ∷ made) = (section.header, words_of one) ∷ pieces sections made

text_is : (section : Part) (one : Call) → Makes section one → text_of one ≡ words_of one ++ 10 ∷ []
text_is section (calls.Types ds) makes = refl
text_is section (calls.Put name u) makes = refl
text_is section (calls.Remove name) makes = absurd (let e = makes.0.0 in cc)
text_is section (calls.Ask name) makes = absurd (let e = makes.0.0 in cc)
text_is section calls.All makes = absurd (let e = makes.0.0 in cc)

file_is : (sections : List Part) (made : List Call) → MakeAll sections made → file_text sections made ≡ put (pieces sections made)
file_is [] [] good = refl
file_is [] (one ∷ made) good = absurd good
file_is (section ∷ sections) [] good = absurd good
file_is (section ∷ sections) (one ∷ made) good =
    let h = section.header ++ 10 ∷ [] in
    append_assoc h (text_of one) (file_text sections made)
    ∙ ap (λ (l : List ℕ). h ++ (l ++ file_text sections made)) (text_is section one good.0)
    ∙ ap (λ (l : List ℕ). h ++ ((words_of one ++ 10 ∷ []) ++ l)) (file_is sections made good.1)

-- each section is a piece

begins_unit : (kind : UnitKind) (rest : List Token) → is_header (texts (spell.symbol (spell.kind_word kind) ++ rest) ++ 10 ∷ []) ≡ false
unfolding text
begins_unit Function rest = refl
begins_unit Closure rest = refl

begins_types : (ds : List Declaration) → is_header (texts (spell.types ds) ++ 10 ∷ []) ≡ false
unfolding text
begins_types [] = refl
begins_types (declarations.Struct d ∷ ds) = refl
begins_types (declarations.Extern d ∷ ds) = refl

taken_header : (section : Part) (one : Call) → Makes section one → is_header (section.header ++ 10 ∷ []) ≡ true
taken_header section one makes = subst (λ (h : List ℕ). is_header (h ++ 10 ∷ []) ≡ true) (sym makes.0.1.1) refl

is_piece : (section : Part) (one : Call) → Makes section one → IsInk section.header → IsLinePair (section.header, words_of one)
is_piece section (calls.Types ds) makes ink = (ink, texts_ink (spell.types ds) (types_are_whole ds (types_found section.text ds makes.1).1), taken_header section (calls.Types ds) makes, begins_types ds)
is_piece section (calls.Put name u) makes ink = (ink, texts_ink (spell.unit u) (unit_is_whole u (read_found section.text u makes.1).1), taken_header section (calls.Put name u) makes, begins_unit u.header.kind (spell.header_rest u.header ++ spell.body u))
is_piece section (calls.Remove name) makes ink = absurd (let e = makes.0.0 in cc)
is_piece section (calls.Ask name) makes ink = absurd (let e = makes.0.0 in cc)
is_piece section calls.All makes ink = absurd (let e = makes.0.0 in cc)

are_pieces : (sections : List Part) (made : List Call) → MakeAll sections made → InkHeaders sections → AreLinePairs (pieces sections made)
are_pieces [] [] good ink = tt
are_pieces [] (one ∷ made) good ink = absurd good
are_pieces (section ∷ sections) [] good ink = absurd good
are_pieces (section ∷ sections) (one ∷ made) good ink = (is_piece section one good.0 ink.0, are_pieces sections made good.1 ink.1)

cut_again : (file : List ℕ) (made : List Call) → MakeAll (sections_of file) made → sections_of (file_text (sections_of file) made) ≡ anew 1 (pieces (sections_of file) made)
cut_again file made good =
    let sections = sections_of file in
    let ps = pieces (sections_of file) made in
    ap sections_of (file_is sections made good) ∙ put_sections 1 ps (are_pieces sections made good (sections_ink 1 (lines_of file)))

-- the calls

module _ (units : PrintedIsRead) (types : PrintedTypesAreRead) where
  makes_again : (section : Part) (number : ℕ) (one : Call) → Makes section one → length (text_of one) ≤ 1048576 → Makes (record { line = number; header = section.header; text = words_of one ++ 10 ∷ [] }) one
  makes_again section number (calls.Types ds) makes short = (makes.0, types ds (types_found section.text ds makes.1).1 short)
  makes_again section number (calls.Put name u) makes short = (makes.0, units u (read_found section.text u makes.1).1 short)
  makes_again section number (calls.Remove name) makes short = absurd (let e = makes.0.0 in cc)
  makes_again section number (calls.Ask name) makes short = absurd (let e = makes.0.0 in cc)
  makes_again section number calls.All makes short = absurd (let e = makes.0.0 in cc)

  make_again : (number : ℕ) (sections : List Part) (made : List Call) → MakeAll sections made → AreShort made → MakeAll (anew number (pieces sections made)) made
  make_again number [] [] good short = tt
  make_again number [] (one ∷ made) good short = absurd good
  make_again number (section ∷ sections) [] good short = absurd good
  make_again number (section ∷ sections) (one ∷ made) good short =
      let P : Call → Type 0 = λ c. length (text_of c) ≤ 1048576 in
      (makes_again section number one good.0 (All-head P one made short), make_again (number + 2) sections made good.1 (All-tail P one made short))

  pub read_again : PrintedFilesAreRead
  read_again file made good short =
      subst (λ (sections : List Part). MakeAll sections made) (sym (cut_again file made good)) (make_again 1 (sections_of file) made good short)

-- the text

text_again : (number : ℕ) (sections : List Part) (made : List Call) → file_text (anew number (pieces sections made)) made ≡ file_text sections made
text_again number [] made = refl
text_again number (section ∷ sections) [] = refl
text_again number (section ∷ sections) (one ∷ made) = ap (λ (l : List ℕ). section_text section.header one ++ l) (text_again (number + 2) sections made)

pub printed_alike : PrintedFilesArePrintedAlike
printed_alike file made good = ap (λ (sections : List Part). file_text sections made) (cut_again file made good) ∙ text_again 1 (sections_of file) made
