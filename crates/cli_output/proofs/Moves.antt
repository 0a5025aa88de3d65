-- Each step keeps the rule of the tokens.
use Rattle.std.proofs.Common.{◌≡◌, ◌≢◌, ◌⊎◌, ℕ, zero, suc, ◌+◌, ◌<◌, List, [], ◌∷◌, ◌++◌, length, set, true, false, true≢false, refl, sym, ap, ◌∙◌, subst, ⊎_elim, inl, inr, arith, eqb, eq-eqb, ne_eqb}
use Rattle.std.proofs.lemmas.List.Elements.{All-nil}
use mathlib.Core.Option.{some, some-ne-none, some-injective}
use lib.ListN.{get_elem?}
use prog.Atomic.{either}
use Rattle.atomic_table.specs.Table.{Allows, Joins, Splits, Me, step, keeps, opening}
use Rattle.atomic_table.proofs.Lists.{at_set, set_again}
use Rattle.cli_output.specs.declared.token.Known.{Known}
use Rattle.cli_output.specs.Logs.{texts_of, AreBelow}
use Rattle.cli_output.specs.Tokens.{first, keeper, maker, writer, nobody, with_writer, with_maker, Fits, Kept, Learns}
use Rattle.cli_output.proofs.Logs.{texts_of-own, texts_of-other, texts_of-none, below_more, below_push}

off : false ≡ true → ⊥
off e = true≢false (sym e)

-- an item of a list that got one more
at_end : {A : Type 0} (l : List A) (a b : A) (j : ℕ) → get_elem? (l ++ a ∷ []) j ≡ some b → (get_elem? l j ≡ some b) ⊎ ((j ≡ length l) × (a ≡ b))
at_end [] a b zero e = inr (refl, some-injective a b e)
at_end [] a b (suc j) e = absurd (some-ne-none b (sym e))
at_end (x ∷ xs) a b zero e = inl e
at_end (x ∷ xs) a b (suc j) e = ⊎_elim (λ h. inl h) (λ h. inr (ap suc h.0, h.1)) (at_end xs a b j e)

-- the seat of one author changes
abbrev seated : (ℕ → ℕ) → ℕ → ℕ → ℕ → ℕ
seated seat author place n = either (eqb n author) place (seat n)

seated-own : (seat : ℕ → ℕ) (author place : ℕ) → place ≡ seated seat author place author
seated-own seat author place = sym (ap (λ b. either b place (seat author)) (eq-eqb author author refl))

seated-other : (seat : ℕ → ℕ) (author place n : ℕ) → n ≢ author → seat n ≡ seated seat author place n
seated-other seat author place n apart = sym (ap (λ b. either b place (seat n)) (ne_eqb n author apart))

-- what holds of all tokens after one was cut in two
after_split : (P : ℕ → Known → Type 0) (views : List Known) (id : ℕ) (left right : Known)
    → P id left → P (length (set views id left)) right → ((j : ℕ) (u : Known) → j ≢ id → get_elem? views j ≡ some u → P j u)
    → (j : ℕ) (u : Known) → get_elem? (set views id left ++ right ∷ []) j ≡ some u → P j u
after_split P views id left right mine new others j u e =
    ⊎_elim
    (λ (h : get_elem? (set views id left) j ≡ some u). ⊎_elim (λ (x : (j ≡ id) × (left ≡ u)). subst (λ (y : ℕ × Known). P y.0 y.1) (λ i. (sym x.0 i, x.1 i)) mine) (λ (x : (j ≢ id) × (get_elem? views j ≡ some u)). others j u x.0 x.1) (at_set views id j left u h))
    (λ (h : (j ≡ length (set views id left)) × (right ≡ u)). subst (λ (y : ℕ × Known). P y.0 y.1) (λ i. (sym h.0 i, h.1 i)) new)
    (at_end (set views id left) right u j e)

-- what holds of all tokens after one took in another
after_join : (P : ℕ → Known → Type 0) (views : List Known) (id other : ℕ) (both spent : Known)
    → P id both → P other spent → ((j : ℕ) (u : Known) → j ≢ id → j ≢ other → get_elem? views j ≡ some u → P j u)
    → (j : ℕ) (u : Known) → get_elem? (set (set views id both) other spent) j ≡ some u → P j u
after_join P views id other both spent mine theirs others j u e =
    ⊎_elim
    (λ (x : (j ≡ other) × (spent ≡ u)). subst (λ (y : ℕ × Known). P y.0 y.1) (λ i. (sym x.0 i, x.1 i)) theirs)
    (λ (x : (j ≢ other) × (get_elem? (set views id both) j ≡ some u)). ⊎_elim (λ (y : (j ≡ id) × (both ≡ u)). subst (λ (z : ℕ × Known). P z.0 z.1) (λ i. (sym y.0 i, y.1 i)) mine) (λ (y : (j ≢ id) × (get_elem? views j ≡ some u)). others j u y.0 x.0 y.1) (at_set views id j both u x.1))
    (at_set (set views id both) other j spent u e)

module _ (keeping making : ℕ) (seat : ℕ → ℕ) (log : List (ℕ × List ℕ)) (made place : ℕ) where
  fits_keeper : (l : List (ℕ × List ℕ)) → place ≡ keeping → l ≡ log → Fits keeping making seat log made place (keeper l)
  fits_keeper l here same = record { keeps = λ _. (here, same); makes = λ e. absurd (off e); writes = λ e. absurd (off e) }

  fits_maker : (n : ℕ) → place ≡ making → n ≡ made → Fits keeping making seat log made place (maker n)
  fits_maker n here same = record { keeps = λ e. absurd (off e); makes = λ _. (here, same); writes = λ e. absurd (off e) }

  fits_writer : (author : ℕ) (texts : List (List ℕ)) → place ≡ seat author → texts ≡ texts_of author log → author < made → Fits keeping making seat log made place (writer author texts)
  fits_writer author texts here same low = record { keeps = λ e. absurd (off e); makes = λ e. absurd (off e); writes = λ _. (here, same, low) }

  fits_nobody : Fits keeping making seat log made place nobody
  fits_nobody = record { keeps = λ e. absurd (off e); makes = λ e. absurd (off e); writes = λ e. absurd (off e) }

pub begins : (words : List ℕ) → Kept (opening words [] first)
begins words = (0, 0, (λ _. 0), [], 0, All-nil (λ (e : ℕ × List ℕ). e.0 < 0), one)
  where
    one : (place : ℕ) (v : Known) → get_elem? (first ∷ []) place ≡ some v → Fits 0 0 (λ _. 0) [] 0 place v
    one zero v e = subst (Fits 0 0 (λ _. 0) [] 0 zero) (some-injective first v e) (record { keeps = λ _. (refl, refl); makes = λ _. (refl, refl); writes = λ e. absurd (off e) })
    one (suc place) v e = absurd (some-ne-none v (sym e))

-- the maker leaves the keeper
pub leaves : (id : ℕ) (v : Known) → v.keeps ≡ true → v.makes ≡ true → Splits Kept id v (keeper v.log) (maker v.made)
leaves id v knows makes s (keeping, making, seat, log, made, low, each) at =
    let mine = each id v at in
    let kept = mine.keeps knows in
    let made_by = mine.makes makes in
    let new = length (set s.views id (keeper v.log)) in (
      keeping,
      new,
      seat,
      log,
      made,
      low,
      after_split (Fits keeping new seat log made) s.views id (keeper v.log) (maker v.made)
          (fits_keeper keeping new seat log made id v.log kept.0 kept.1)
          (fits_maker keeping new seat log made new v.made refl made_by.1)
          (λ j u apart e. (let h = each j u e in record { keeps = h.keeps; makes = λ m. absurd (apart ((h.makes m).0 ∙ sym made_by.0)); writes = h.writes })),
    )

-- one more author
pub admits : (id : ℕ) (v : Known) → v.makes ≡ true → Splits Kept id v (maker (v.made + 1)) (writer v.made [])
admits id v makes s (keeping, making, seat, log, made, low, each) at =
    let made_by = (each id v at).makes makes in
    let new = length (set s.views id (maker (v.made + 1))) in
    let seat' : ℕ → ℕ = seated seat v.made new in
    let low' : AreBelow v.made log = subst (λ (n : ℕ). AreBelow n log) (sym made_by.1) low in (
      keeping,
      making,
      seat',
      log,
      v.made + 1,
      below_more v.made log low',
      after_split (Fits keeping making seat' log (v.made + 1)) s.views id (maker (v.made + 1)) (writer v.made [])
          (fits_maker keeping making seat' log (v.made + 1) id (v.made + 1) made_by.0 refl)
          (fits_writer keeping making seat' log (v.made + 1) new v.made [] (seated-own seat v.made new) (sym (texts_of-none v.made log low')) (omega arith))
          (λ j u apart e. (let h = each j u e in record {
            keeps = h.keeps;
            makes = λ m. absurd (apart ((h.makes m).0 ∙ sym made_by.0));
            writes = λ w. (let old = h.writes w in let below : u.author < v.made = subst (λ (n : ℕ). u.author < n) (sym made_by.1) old.2 in
                (old.0 ∙ seated-other seat v.made new u.author (λ same. omega (arith, same, below)), old.1, omega (arith, below)));
          })),
    )

-- an author's token goes on to another
pub hands_on : (id : ℕ) (v : Known) → v.keeps ≡ false → v.makes ≡ false → v.writes ≡ true → Splits Kept id v nobody v
hands_on id v knows makes writes s (keeping, making, seat, log, made, low, each) at =
    let mine = (each id v at).writes writes in
    let new = length (set s.views id nobody) in
    let seat' : ℕ → ℕ = seated seat v.author new in (
      keeping,
      making,
      seat',
      log,
      made,
      low,
      after_split (Fits keeping making seat' log made) s.views id nobody v
          (fits_nobody keeping making seat' log made id)
          (record { keeps = λ e. absurd (off (sym knows ∙ e)); makes = λ e. absurd (off (sym makes ∙ e)); writes = λ _. (seated-own seat v.author new, mine.1, mine.2) })
          (λ j u apart e. (let h = each j u e in record {
            keeps = h.keeps;
            makes = h.makes;
            writes = λ w. (let old = h.writes w in
                (old.0 ∙ seated-other seat v.author new u.author (λ same. apart (old.0 ∙ ap seat same ∙ sym mine.0)), old.1, old.2));
          })),
    )

-- an author's token is taken in
pub takes_in : (id : ℕ) (v : Known) (other : ℕ) (w : Known) → w.writes ≡ true → Joins Kept id v other w (with_writer v w) nobody
takes_in id v other w writes s (keeping, making, seat, log, made, low, each) at apart there =
    let theirs : get_elem? s.views other ≡ some w = ⊎_elim (λ (t : (other ≡ id) × (with_writer v w ≡ w)). absurd (apart t.0)) (λ (t : (other ≢ id) × (get_elem? s.views other ≡ some w)). t.1) (at_set s.views id other (with_writer v w) w there) in
    let mine = each id v at in
    let wrote = (each other w theirs).writes writes in
    let seat' : ℕ → ℕ = seated seat w.author id in (
      keeping,
      making,
      seat',
      log,
      made,
      low,
      after_join (Fits keeping making seat' log made) s.views id other (with_writer v w) nobody
          (record { keeps = mine.keeps; makes = mine.makes; writes = λ _. (seated-own seat w.author id, wrote.1, wrote.2) })
          (fits_nobody keeping making seat' log made other)
          (λ j u apart' others e. (let h = each j u e in record {
            keeps = h.keeps;
            makes = h.makes;
            writes = λ y. (let old = h.writes y in
                (old.0 ∙ seated-other seat w.author id u.author (λ same. others (old.0 ∙ ap seat same ∙ sym wrote.0)), old.1, old.2));
          })),
    )

-- the maker's token is taken in
pub takes_maker : (id : ℕ) (v : Known) (other : ℕ) (w : Known) → w.makes ≡ true → Joins Kept id v other w (with_maker v w) nobody
takes_maker id v other w makes s (keeping, making, seat, log, made, low, each) at apart there =
    let theirs : get_elem? s.views other ≡ some w = ⊎_elim (λ (t : (other ≡ id) × (with_maker v w ≡ w)). absurd (apart t.0)) (λ (t : (other ≢ id) × (get_elem? s.views other ≡ some w)). t.1) (at_set s.views id other (with_maker v w) w there) in
    let mine = each id v at in
    let made_by = (each other w theirs).makes makes in (
      keeping,
      id,
      seat,
      log,
      made,
      low,
      after_join (Fits keeping id seat log made) s.views id other (with_maker v w) nobody
          (record { keeps = mine.keeps; makes = λ _. (refl, made_by.1); writes = mine.writes })
          (fits_nobody keeping id seat log made other)
          (λ j u apart' others e. (let h = each j u e in record { keeps = h.keeps; makes = λ m. absurd (others ((h.makes m).0 ∙ sym made_by.0)); writes = h.writes })),
    )

-- the author whose token was taken in wrote one more text
pub wrote : (id : ℕ) (v : Known) (text : List ℕ) → v.keeps ≡ true → v.writes ≡ true
    → Splits Kept id v (keeper (v.log ++ (v.author, text) ∷ [])) (writer v.author (v.texts ++ text ∷ []))
wrote id v text knows writes s (keeping, making, seat, log, made, low, each) at =
    let kept = (each id v at).keeps knows in
    let mine = (each id v at).writes writes in
    let left = keeper (v.log ++ (v.author, text) ∷ []) in
    let right = writer v.author (v.texts ++ text ∷ []) in
    let new = length (set s.views id left) in
    let seat' : ℕ → ℕ = seated seat v.author new in
    let log' : List (ℕ × List ℕ) = log ++ (v.author, text) ∷ [] in (
      keeping,
      making,
      seat',
      log',
      made,
      below_push made log v.author text low mine.2,
      after_split (Fits keeping making seat' log' made) s.views id left right
          (fits_keeper keeping making seat' log' made id (v.log ++ (v.author, text) ∷ []) kept.0 (ap (λ l. l ++ (v.author, text) ∷ []) kept.1))
          (fits_writer keeping making seat' log' made new v.author (v.texts ++ text ∷ []) (seated-own seat v.author new) (ap (λ l. l ++ text ∷ []) mine.1 ∙ sym (texts_of-own v.author log text)) mine.2)
          (λ j u apart e. (let h = each j u e in record {
            keeps = λ k. absurd (apart ((h.keeps k).0 ∙ sym kept.0));
            makes = h.makes;
            writes = λ y. (let old = h.writes y in
                let else : u.author ≢ v.author = λ same. apart (old.0 ∙ ap seat same ∙ sym mine.0) in
                (old.0 ∙ seated-other seat v.author new u.author else, old.1 ∙ sym (texts_of-other u.author v.author log text (λ same. else (sym same))), old.2));
          })),
    )

-- the token that knows the log learns
pub learns : (slots id : ℕ) (me : Me ℕ Known) (word : ℕ) → Allows Kept slots id me word (λ n. n) (Learns (step slots word 0 0 mathlib.Core.Option.none) me)
learns slots id me word s (keeping, making, seat, log, made, low, each) long at small =
    let mine = each id me.0 at in (
      me.0,
      keeps,
      tt,
      (keeping, making, seat, log, made, low, λ place v e. each place v (subst (λ l. get_elem? l place ≡ some v) (set_again s.views id me.0 at) e)),
      (
        refl,
        (λ k w. (mine.writes w).1 ∙ ap (texts_of me.0.author) (sym (mine.keeps k).1)),
        (λ k m. subst (λ (p : ℕ × List (ℕ × List ℕ)). AreBelow p.0 p.1) (λ i. (sym (mine.makes m).1 i, sym (mine.keeps k).1 i)) low),
      ),
    )
