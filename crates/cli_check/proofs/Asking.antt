-- Names that are gathered in order.
use Rattle.std.proofs.Common.{◌≡◌, ℕ, ◌<◌, ◌≤◌, ◌+◌, List, [], ◌∷◌, ◌++◌, length, get_or, take, map, Option, Some, None, refl, sym, ap, ◌∙◌, subst, arith, Ordering, Less, Equal, Greater, inl, inr}
use Rattle.std.specs.List.{All, Contains}
use Rattle.std.specs.List.Sorted.{IsStrictlySortedBy}
use Rattle.std.specs.Ordering.{match_ordering}
use Rattle.std.specs.BTreeSet.{insert_key}
use Rattle.std.proofs.lemmas.List.{map-append, take_more, take_all}
use Rattle.std.proofs.lemmas.List.Elements.{All-contains, All-contains_itself, Contains-append_left, Contains-append_right, Contains-append_cases}
use Rattle.std.proofs.lemmas.Map.Lookups.{CmpEqualImpliesEq}
use Rattle.std.proofs.lemmas.Map.Views.{All-insert_key}
use Rattle.bc_names.specs.Names.{NameParts, name_order}
use Rattle.bc_names.specs.Laws.{NamesAreToldApart}
use Rattle.bc_calls.specs.declared.call.Call.{Call}
use Rattle.cli_check.specs.Asked.{root_put, AreAsked}
use Rattle.cli_check.proofs.Members.{Contains-one, Contains-head, Contains-later}

-- an ordering, with what is known about it
chosen : {X : Type 0} (P : List X → Type 0) (o : Ordering) (a b c : List X) → P a → (o ≡ Equal → P b) → P c → P (match_ordering o a b c)
chosen P Less a b c x y z = x
chosen P Equal a b c x y z = y refl
chosen P Greater a b c x y z = z

-- a name that is inserted is there
put_in : {X : Type 0} (cmp : X → X → Ordering) → CmpEqualImpliesEq cmp → (k : X) (ks : List X) → Contains (insert_key cmp ks k) k
put_in cmp exact k [] = Contains-head k []
put_in cmp exact k (x ∷ ks) =
    chosen (λ xs. Contains xs k) (cmp k x) _ _ _ (Contains-head k (x ∷ ks)) (λ e. subst (λ y. Contains (y ∷ ks) k) (exact k x e) (Contains-head k ks)) (Contains-later x _ k (put_in cmp exact k ks))

-- names that were there remain
stays_in : {X : Type 0} (cmp : X → X → Ordering) (k q : X) (ks : List X) → Contains ks q → Contains (insert_key cmp ks k) q
stays_in cmp k q [] h = absurd (omega (arith, h.1))
stays_in cmp k q (x ∷ ks) h =
    chosen (λ xs. Contains xs q) (cmp k x) _ _ _ (Contains-later k (x ∷ ks) q h) (λ _. h) (elim (Contains-append_cases (x ∷ []) ks q h) [
      | inl one ↦ subst (λ y. Contains (x ∷ insert_key cmp ks k) y) (Contains-one x q one) (Contains-head x _)
      | inr more ↦ Contains-later x _ q (stays_in cmp k q ks more)
    ])

same_some : {X : Type 0} (x y : X) → Some x ≡ Some y → x ≡ y
same_some x y e = cc

-- the roots of one more call
roots-snoc : (calls : List Call) (call : Call) (found : Option NameParts) → root_put call ≡ found → map root_put (calls ++ call ∷ []) ≡ map root_put calls ++ found ∷ []
roots-snoc calls call found is = map-append root_put calls (call ∷ []) ∙ ap (λ (o : Option NameParts). map root_put calls ++ o ∷ []) is

-- one more root
added : NamesAreToldApart → (calls : List Call) (call : Call) (name : NameParts) (names new : List NameParts) → AreAsked calls names → root_put call ≡ Some name → new ≡ insert_key name_order names name → IsStrictlySortedBy name_order new → AreAsked (calls ++ call ∷ []) new
added apart calls call name names new h root is sorted =
    let roots = map root_put calls in
    let more : map root_put (calls ++ call ∷ []) ≡ roots ++ Some name ∷ [] = roots-snoc calls call (Some name) root in
    let P : NameParts → Type 0 = λ q. Contains (roots ++ Some name ∷ []) (Some q) in
    let old : All P names = λ k d below. Contains-append_left roots (Some name ∷ []) (Some (get_or names k d)) ((h.exact (get_or names k d)).0 (All-contains_itself names k d below)) in
    let all : All P new = subst (All P) (sym is) (All-insert_key name_order name P names old (Contains-append_right roots (Some name ∷ []) (Some name) (Contains-head (Some name) []))) in
    record {
      ascending = sorted;
      exact = λ q. (
        λ there. subst (λ (l : List (Option NameParts)). Contains l (Some q)) (sym more) (All-contains P new q all there),
        λ there. subst (λ (l : List NameParts). Contains l q) (sym is) (elim (Contains-append_cases roots (Some name ∷ []) (Some q) (subst (λ (l : List (Option NameParts)). Contains l (Some q)) more there)) [
          | inl before ↦ stays_in name_order name q names ((h.exact q).1 before)
          | inr one ↦ subst (λ (n : NameParts). Contains (insert_key name_order names name) n) (same_some name q (Contains-one (Some name) (Some q) one)) (put_in name_order apart name names)
        ]),
      );
    }

-- a call that puts nothing under a root is left out
left_out : (calls : List Call) (call : Call) (names : List NameParts) → AreAsked calls names → root_put call ≡ None → AreAsked (calls ++ call ∷ []) names
left_out calls call names h none =
    let roots = map root_put calls in
    let more : map root_put (calls ++ call ∷ []) ≡ roots ++ None ∷ [] = roots-snoc calls call None none in
    record {
      ascending = h.ascending;
      exact = λ q. (
        λ there. subst (λ (l : List (Option NameParts)). Contains l (Some q)) (sym more) (Contains-append_left roots (None ∷ []) (Some q) ((h.exact q).0 there)),
        λ there. elim (Contains-append_cases roots (None ∷ []) (Some q) (subst (λ (l : List (Option NameParts)). Contains l (Some q)) more there)) [
          | inl before ↦ (h.exact q).1 before
          | inr one ↦ (let never : None ≡ Some q = Contains-one None (Some q) one in absurd cc)
        ],
      );
    }

one_more : (calls : List Call) (i : ℕ) (call : Call) → i < length calls → ((d : Call) → get_or calls i d ≡ call) → take (i + 1) calls ≡ take i calls ++ call ∷ []
one_more calls i call below at = take_more calls i call below ∙ ap (λ (c : Call). take i calls ++ c ∷ []) (at call)

pub asked_more : NamesAreToldApart → (calls : List Call) (i : ℕ) (call : Call) (name : NameParts) (names new : List NameParts) → AreAsked (take i calls) names → i < length calls → ((d : Call) → get_or calls i d ≡ call) → root_put call ≡ Some name → new ≡ insert_key name_order names name → IsStrictlySortedBy name_order new → AreAsked (take (i + 1) calls) new
asked_more apart calls i call name names new h below at root is sorted =
    subst (λ (l : List Call). AreAsked l new) (sym (one_more calls i call below at)) (added apart (take i calls) call name names new h root is sorted)

pub asked_same : (calls : List Call) (i : ℕ) (call : Call) (names : List NameParts) → AreAsked (take i calls) names → i < length calls → ((d : Call) → get_or calls i d ≡ call) → root_put call ≡ None → AreAsked (take (i + 1) calls) names
asked_same calls i call names h below at none =
    subst (λ (l : List Call). AreAsked l names) (sym (one_more calls i call below at)) (left_out (take i calls) call names h none)

pub asked_all : (calls : List Call) (i : ℕ) (names : List NameParts) → AreAsked (take i calls) names → length calls ≤ i → AreAsked calls names
asked_all calls i names h all = subst (λ (l : List Call). AreAsked l names) (take_all i calls all) h
