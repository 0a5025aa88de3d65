-- The productions of declarations are such parsers as `Local` describes.
use Rattle.std.proofs.Common.{◌≡◌, ℕ, zero, suc, ◌-◌, Bool, true, false, List, [], ◌∷◌, ◌++◌, length, refl, sym, ap, ◌∙◌, append_assoc}
use Rattle.std.specs.Prelude.{nat_lt}
use Rattle.std.specs.List.{All, flat_map}
use Rattle.std.proofs.lemmas.List.{append-nil}
use Rattle.std.proofs.lemmas.List.Elements.{All-nil}
use Rattle.bc_syntax.specs.Token.{Token}
use Rattle.bc_syntax.specs.declared.symbol.Symbol.{Symbol}
use Rattle.bc_syntax.specs.declared.symbol.Symbol.TheVariants as s
use Rattle.bc_syntax.specs.declared.syntax.RegionName.{RegionName}
use Rattle.bc_syntax.specs.declared.syntax.ItemName.{ItemName}
use Rattle.bc_syntax.specs.declared.syntax.Ty.{Ty}
use Rattle.bc_syntax.specs.declared.syntax.Variance.TheVariants.{Covariant, Invariant}
use Rattle.bc_syntax.specs.declared.syntax.StructDeclaration.{StructDeclaration}
use Rattle.bc_syntax.specs.declared.syntax.ExternDeclaration.{ExternDeclaration}
use Rattle.bc_syntax.specs.declared.syntax.Declaration.{Declaration}
use Rattle.bc_syntax.specs.declared.syntax.Declaration.TheVariants as declarations
use Rattle.bc_tokens.specs.Token.{Tokens}
use Rattle.bc_tokens.specs.Parser.{Parser, ◌>>◌, ◌<$>◌, expect, first}
use Rattle.bc_text.specs.Reading as read
use Rattle.bc_syntax.specs.Spelling as spell
use Rattle.bc_text_laws.proofs.Local.{Parses, Steps, Any, Looks, is_taken, then, then_steps, gives, refuses, moved, made_so, all_and, optional, filled, either_steps, seen, seen_steps, past, if_seen, if_past, symbol_looks, either_looks, expects, eats, eaten, ends, one_more, in_angles}
use Rattle.bc_text_laws.specs.Standing.{IsPlain, SignatureStands, NoClosures}
use Rattle.bc_text.proofs.DeclarationLaws.{zipped}
use Rattle.bc_text_laws.proofs.LocalUnits.{new_region, item_name, begins_ty, ty, signature}

variance : Parses Any read.variance [] spell.variance
unfolding read.variance
variance = optional s.Plus (gives Covariant tt refl) (then (expects s.Equals) (λ _ _. gives Invariant tt refl))

begins_mark : Looks read.begins_mark
begins_mark = either_looks (symbol_looks s.Plus) (symbol_looks s.Equals)

mark : (before : read.Marks) → Parses Any (read.mark before) [] spell.mark
unfolding read.mark
mark before = then variance (λ v _. then (new_region false (read.regions_of before)) (λ r _. gives (v, r) tt refl))

module _ (regions : List RegionName) where
  abbrev field_texts : List Ty → List Token
  field_texts found = flat_map (spell.field regions) found

  field_more : (found : List Ty) (t : Ty) → field_texts (found ++ t ∷ []) ≡ (field_texts found ++ spell.ty regions t) ++ spell.symbol s.Semicolon
  field_more found t = one_more (spell.field regions) found t ∙ sym (append_assoc (field_texts found) (spell.ty regions t) (spell.symbol s.Semicolon))

  fields_from : (room : ℕ) (found : List Ty) → All IsPlain found → Parses (All IsPlain) (read.fields_from regions room found) (field_texts found) (flat_map (spell.field regions))
  unfolding read.fields_from read.fields_turn
  fields_from zero found all = if_past (begins_ty false regions) (found, all, [], sym (append-nil (field_texts found))) (gives found all refl)
  fields_from (suc room) found all = if_seen (begins_ty false regions) (then (ty false regions) (λ t h. then (expects s.Semicolon) (λ _ _. moved (field_more found t) (fields_from room (found ++ t ∷ []) (all_and IsPlain found t all h))))) (gives found all refl)

  fields : Parses (All IsPlain) (read.fields regions) [] (λ (fs : List Ty). spell.symbol s.OpenBrace ++ (field_texts fs ++ spell.symbol s.CloseBrace))
  unfolding read.fields
  fields = then (expects s.OpenBrace) (λ _ _. then (fields_from 16 [] (All-nil IsPlain)) (λ fs h. then (expects s.CloseBrace) (λ _ _. gives fs h refl)))

drop_is : (b : Bool) → spell.drop_word b ≡ eaten s.Drop b
drop_is true = refl
drop_is false = refl

abbrev struct_head : ItemName → read.Marks → List Token
struct_head name marks = spell.item_name name ++ spell.angled spell.mark marks

struct_of : (name : ItemName) (marks : read.Marks) → Parses (λ (d : StructDeclaration). All IsPlain d.fields) (read.struct_of name marks) (struct_head name marks) spell.struct_rest
unfolding read.struct_of
struct_of name marks = then (eats s.Drop) (λ drops _. then (fields (read.regions_of marks)) (λ fs plain.
    let rs = read.regions_of marks in
    let within = spell.symbol s.OpenBrace ++ (field_texts rs fs ++ spell.symbol s.CloseBrace) in
    gives (record { name = name; regions = rs; variances = read.variances_of marks; has_drop = drops; fields = fs }) plain (
    ap (λ (l : read.Marks). spell.item_name name ++ (spell.angled spell.mark l ++ (spell.drop_word drops ++ within))) (zipped marks)
    ∙ ap (λ (l : List Token). spell.item_name name ++ (spell.angled spell.mark marks ++ (l ++ within))) (drop_is drops)
    ∙ sym (append_assoc (struct_head name marks) (eaten s.Drop drops) within)
    )))

struct_declaration : Parses (λ (d : StructDeclaration). All IsPlain d.fields) read.struct_declaration [] spell.struct_rest
unfolding read.struct_declaration
struct_declaration = then (item_name false []) (λ name _. then (in_angles begins_mark mark 8) (λ marks _. struct_of name marks))

extern_declaration : Parses (λ (d : ExternDeclaration). SignatureStands d.signature) read.extern_declaration [] spell.extern_rest
unfolding read.extern_declaration
extern_declaration = then (item_name false []) (λ name _. then (signature 8) (λ f h. then (expects s.Semicolon) (λ _ _. gives (record { name = name; signature = f }) h refl)))

a_struct : Parses NoClosures (expect s.Struct >> (declarations.Struct <$> read.struct_declaration)) [] spell.declaration
a_struct = then (expects s.Struct) (λ _ _. made_so _ struct_declaration (λ d h. h) (λ d _. refl))

an_extern : Parses NoClosures (expect s.Extern >> (declarations.Extern <$> read.extern_declaration)) [] spell.declaration
an_extern = then (expects s.Extern) (λ _ _. made_so _ extern_declaration (λ d h. h) (λ d _. refl))

counted : {A : Type 0} {P : A → Type 0} {spell : A → List Token} (before : ℕ) (word : Symbol) (rest : Parser A) → Parses P (expect word >> rest) [] spell → (ts : Tokens) → is_taken (first ts).token ≡ true → Steps P (read.counted before word rest) [] spell ts
counted before word rest one ts h = either_steps (nat_lt before 64) (one.steps ts) (past ts h (filled one))

declaration : (found : List Declaration) (ts : Tokens) → is_taken (first ts).token ≡ true → Steps NoClosures (read.declaration found) [] spell.declaration ts
unfolding read.declaration
declaration found ts h =
    seen_steps (symbol_looks s.Struct) ts
    (λ _. counted (read.structs_in found) s.Struct _ a_struct ts h)
    (counted (length found - read.structs_in found) s.Extern _ an_extern ts h)

begins_declaration : Looks read.begins_declaration
begins_declaration = either_looks (symbol_looks s.Struct) (symbol_looks s.Extern)

declarations_from : (room : ℕ) (found : List Declaration) → All NoClosures found → Parses (All NoClosures) (read.declarations_from room found) (spell.types found) spell.types
unfolding read.declarations_from read.declarations_turn
declarations_from zero found all = refuses (found, all, [], sym (append-nil (spell.types found)))
declarations_from (suc room) found all =
    seen begins_declaration
    (λ ts h. then_steps (declaration found ts (begins_declaration.passes ts h)) (λ d h. moved (one_more spell.declaration found d) (declarations_from room (found ++ d ∷ []) (all_and NoClosures found d all h))))
    (gives found all refl)

pub types : Parses (All NoClosures) read.types [] spell.types
unfolding read.types
types = then (declarations_from 129 [] (All-nil NoClosures)) (λ ds all. then ends (λ _ _. gives ds all (sym (append-nil (spell.types ds)))))
