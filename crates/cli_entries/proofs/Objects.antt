-- The text of an entry's object.
use Rattle.std.proofs.Common.{◌≡◌, ℕ, Bool, true, false, ◌||◌, List, [], ◌∷◌, ◌++◌, map, codes, decimal, refl, sym, ap, ◌∙◌, append_assoc}
use Rattle.std.specs.List.{flat_map, AllZip}
use Rattle.serde_json.specs.Data.{Data, number, unsigned, array, object, member, no_members, put}
use Rattle.serde_json.specs.View.{items_of}
use Rattle.serde_json.specs.Written.{has_float, compact_text, items_have_float, items_text}
use Rattle.serde_json.proofs.OnLiterals.{serde_json_on_literals}
use Rattle.json.specs.Print.{quoted}
use Rattle.bc_names.specs.Names.{NameParts, name_text}
use Rattle.bc_prov.specs.declared.outcome.Outcome.{Outcome}
use Rattle.bc_calls.specs.declared.call.Event.{Event}
use Rattle.bc_calls.specs.declared.call.Event.TheVariants.{Types, Put, Remove, Ask, All as EveryRoot}
use Rattle.bc_json.specs.Json.{outcome_json}
use Rattle.bc_json.specs.Texts.{separated, array_text}
use Rattle.cli_entries.specs.Words.{put_word, remove_word}
use Rattle.cli_entries.specs.Replies.{IsRoot, IsReplyData, reply_key}
use Rattle.cli_entries.specs.Json.{root_json, entry_json}

-- the value has no float, and this is its compact text
abbrev pub IsWritten : Data → List ℕ → Type 0
IsWritten value text = (has_float value ≡ false) × (compact_text value ≡ text)

no_float : (a b : Bool) → a ≡ false → b ≡ false → (a || b) ≡ false
no_float a b e f = rw (e, f) refl

root_parts : (a x b y c : List ℕ) → a ++ (x ++ (b ++ (y ++ c))) ≡ a ++ x ++ b ++ y ++ c
root_parts a x b y c = simp append_assoc refl

root_written : (row : NameParts × Outcome) (root : Data) → IsRoot row root → IsWritten root (root_json row)
unfolding serde_json_on_literals
root_written row root is =
    let outcome = is.1 in
    rw is.2 (rw outcome.0 refl, rw outcome.1 (root_parts (codes "{\"name\":") (quoted (name_text row.0)) (codes ",\"outcome\":") (outcome_json row.1) (codes "}")))

roots_no_float : (rows : List (NameParts × Outcome)) (roots : List Data) → AllZip IsRoot rows roots → items_have_float (items_of roots) ≡ false
roots_no_float [] [] h = refl
roots_no_float [] (d ∷ ds) h = absurd h
roots_no_float (r ∷ rs) [] h = absurd h
roots_no_float (r ∷ rs) (d ∷ ds) h = no_float _ _ (root_written r d h.0).0 (roots_no_float rs ds h.1)

-- the roots after the first
later_roots : (rows : List (NameParts × Outcome)) (roots : List Data) → AllZip IsRoot rows roots → items_text true (items_of roots) ≡ flat_map (λ later. codes "," ++ later) (map root_json rows) ++ 93 ∷ []
later_roots [] [] h = refl
later_roots [] (d ∷ ds) h = absurd h
later_roots (r ∷ rs) [] h = absurd h
later_roots (r ∷ rs) (d ∷ ds) h =
    ap (λ (x : List ℕ). 44 ∷ (x ++ items_text true (items_of ds))) (root_written r d h.0).1
    ∙ ap (λ (x : List ℕ). 44 ∷ (root_json r ++ x)) (later_roots rs ds h.1)
    ∙ sym (append_assoc (44 ∷ root_json r) (flat_map (λ later. codes "," ++ later) (map root_json rs)) (93 ∷ []))

roots_text : (rows : List (NameParts × Outcome)) (roots : List Data) → AllZip IsRoot rows roots → items_text false (items_of roots) ≡ separated (map root_json rows) ++ 93 ∷ []
roots_text [] [] h = refl
roots_text [] (d ∷ ds) h = absurd h
roots_text (r ∷ rs) [] h = absurd h
roots_text (r ∷ rs) (d ∷ ds) h =
    ap (λ (x : List ℕ). x ++ items_text true (items_of ds)) (root_written r d h.0).1
    ∙ ap (λ (x : List ℕ). root_json r ++ x) (later_roots rs ds h.1)
    ∙ sym (append_assoc (root_json r) (flat_map (λ later. codes "," ++ later) (map root_json rs)) (93 ∷ []))

roots_written : (rows : List (NameParts × Outcome)) (roots : List Data) → AllZip IsRoot rows roots → IsWritten (array (items_of roots)) (array_text (map root_json rows))
roots_written rows roots h = (roots_no_float rows roots h, ap (λ (x : List ℕ). 91 ∷ x) (roots_text rows roots h))

entry_parts : (a n c k r d s e : List ℕ) → a ++ (n ++ (c ++ (k ++ (r ++ (d ++ (s ++ e)))))) ≡ a ++ n ++ c ++ (k ++ r) ++ d ++ s ++ e
entry_parts a n c k r d s e = simp append_assoc refl

listed : (session before : ℕ) (roots : Data) (text : List ℕ) → IsWritten roots text
    → IsWritten (object (member (codes "number") (number (unsigned before)) (member (codes "roots") roots (member (codes "session") (number (unsigned session)) no_members))))
    (codes "{\"number\":" ++ decimal before ++ codes "," ++ (codes "\"roots\":" ++ text) ++ codes ",\"session\":" ++ decimal session ++ codes "}")
unfolding serde_json_on_literals
listed session before roots text is = (rw is.0 refl, rw is.1 (entry_parts (codes "{\"number\":") (decimal before) (codes ",") (codes "\"roots\":") text (codes ",\"session\":") (decimal session) (codes "}")))

-- the object of an entry is written as its line, if its session was put first
pub entry_written : (session before : ℕ) (event : Event) (reply : Data) → IsReplyData event reply
    → IsWritten (object (put (reply_key event) reply (put (codes "number") (number (unsigned before)) (member (codes "session") (number (unsigned session)) no_members))))
    (entry_json (record { session = session; number = before; event = event }))
unfolding serde_json_on_literals
entry_written session before (Types types) reply is = rw is (refl, entry_parts (codes "{\"number\":") (decimal before) (codes ",") (codes "\"reply\":") (quoted (codes "stored")) (codes ",\"session\":") (decimal session) (codes "}"))
entry_written session before (Put name body word) reply is = rw is (refl, entry_parts (codes "{\"number\":") (decimal before) (codes ",") (codes "\"reply\":") (quoted (put_word word)) (codes ",\"session\":") (decimal session) (codes "}"))
entry_written session before (Remove name word) reply is = rw is (refl, entry_parts (codes "{\"number\":") (decimal before) (codes ",") (codes "\"reply\":") (quoted (remove_word word)) (codes ",\"session\":") (decimal session) (codes "}"))
entry_written session before (Ask name outcome) reply is = (rw is.0 refl, rw is.1 (entry_parts (codes "{\"number\":") (decimal before) (codes ",") (codes "\"outcome\":") (outcome_json outcome) (codes ",\"session\":") (decimal session) (codes "}")))
entry_written session before (EveryRoot rows) reply is = rw is.2 (listed session before (array (items_of is.0)) (array_text (map root_json rows)) (roots_written rows is.0 is.1))
