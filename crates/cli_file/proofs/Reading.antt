-- Sections that are read one after another.
use Rattle.std.proofs.Common.{◌≡◌, ℕ, List, [], ◌∷◌, ◌++◌, refl, sym, ap, ◌∙◌, append_assoc, append-nil, subst}
use Rattle.std.specs.Prelude.{◌≢◌, Result, Err}
use Rattle.std.specs.List.{AllZip}
use Rattle.bc_text.specs.declared.fault.ReadFault.{ReadFault}
use Rattle.bc_text.specs.declared.fault.ReadFault.TheVariants as read_faults
use Rattle.cli_file.specs.declared.fault.FileFault.{FileFault}
use Rattle.cli_file.specs.declared.heading.Heading.{Heading}
use Rattle.cli_file.specs.Parts.{Part}
use Rattle.cli_file.specs.Sections.{GivesRead, IsFault, IsFirstFault, stop_of}

-- of all sections, those that are not left give these
pub record HasRead {Given : Type 0} (Gives : Part → Given → Type 0) (all left : List Part) (given : List Given) : Type 0 where
  pub before : List Part
  pub cut : all ≡ before ++ left
  pub good : AllZip Gives before given

given_more : {Given : Type 0} (Gives : Part → Given → Type 0) (sections : List Part) (given : List Given) (section : Part) (one : Given) → AllZip Gives sections given → Gives section one → AllZip Gives (sections ++ section ∷ []) (given ++ one ∷ [])
given_more Gives [] [] section one h is = (is, tt)
given_more Gives [] (g ∷ given) section one h is = absurd h
given_more Gives (s ∷ sections) [] section one h is = absurd h
given_more Gives (s ∷ sections) (g ∷ given) section one h is = (h.0, given_more Gives sections given section one h.1 is)

-- one more section
pub read_more : {Given : Type 0} (Gives : Part → Given → Type 0) (all left rest : List Part) (given : List Given) (section : Part) (one : Given) → HasRead Gives all left given → left ≡ section ∷ rest → Gives section one → HasRead Gives all rest (given ++ one ∷ [])
read_more Gives all left rest given section one h next is = record {
  before = h.before ++ section ∷ [];
  cut = h.cut ∙ ap (λ (ss : List Part). h.before ++ ss) next ∙ sym (append_assoc h.before (section ∷ []) rest);
  good = given_more Gives h.before given section one h.good is;
}

-- all sections
pub read_all : {Given : Type 0} (Gives : Part → Given → Type 0) (all left : List Part) (given : List Given) → HasRead Gives all left given → left ≡ [] → AllZip Gives all given
read_all Gives all left given h none =
    let same : all ≡ h.before = h.cut ∙ ap (λ (ss : List Part). h.before ++ ss) none ∙ append-nil h.before in
    subst (λ (ss : List Part). AllZip Gives ss given) (sym same) h.good

-- a section with a fault
pub read_fault : {Given : Type 0} (Gives : Part → Given → Type 0) (Takes : Heading → List ℕ → Type 0) (all left rest : List Part) (given : List Given) (section : Part) (fault : FileFault) → HasRead Gives all left given → left ≡ section ∷ rest → fault.line ≡ section.line → IsFault Takes section fault.kind → IsFirstFault Gives Takes all fault
read_fault Gives Takes all left rest given section fault h next line kind = record {
  before = h.before;
  section = section;
  behind = rest;
  given = given;
  cut = h.cut ∙ ap (λ (ss : List Part). h.before ++ ss) next;
  good = h.good;
  line = line;
  kind = kind;
}

-- the text of a section cannot be read
pub unread : {T : Type 0} (found : Result T ReadFault) (section : Part) (fault : ReadFault) → (fault ≢ read_faults.NoMemory → found ≡ Err fault) → GivesRead found section (Err (stop_of section.line fault))
unread found section read_faults.TooLong is = (refl, (_, is (λ e. absurd cc), refl))
unread found section (read_faults.NotAscii at) is = (refl, (_, is (λ e. absurd cc), refl))
unread found section (read_faults.Token at) is = (refl, (_, is (λ e. absurd cc), refl))
unread found section (read_faults.Grammar at) is = (refl, (_, is (λ e. absurd cc), refl))
unread found section (read_faults.Limit at) is = (refl, (_, is (λ e. absurd cc), refl))
unread found section read_faults.NoMemory is = tt
