-- Asks that are begun one after another.
use Rattle.std.proofs.Common.{◌≡◌, List, [], ◌∷◌, ◌++◌, sym, ap, ◌∙◌, append_assoc}
use Rattle.bc_names.specs.Names.{NameParts}
use Rattle.bc_share.specs.Sessions.{SessionView, IsSame, Stays}
use Rattle.bc_share.proofs.Noting.{same_session, same_then_stays}

-- of all names, those that are not left are begun, and the session is the same
pub record HasBegun (all left begun : List NameParts) (old new : SessionView) : Type 0 where
  pub cut : all ≡ begun ++ left
  pub kept : IsSame old new

pub begun_none : (all left begun : List NameParts) (s : SessionView) → left ≡ all → begun ≡ [] → HasBegun all left begun s s
begun_none all left begun s is none = record {
  cut = sym is ∙ ap (λ (l : List NameParts). l ++ left) (sym none);
  kept = same_session s;
}

-- one more name
pub begun_kept : (all left begun : List NameParts) (old mid new : SessionView) → HasBegun all left begun old mid → Stays mid new → IsSame old new
begun_kept all left begun old mid new h stays = same_then_stays old mid new h.kept stays

pub begun_more : (all left rest begun begun' : List NameParts) (name ask : NameParts) (old mid new : SessionView) → HasBegun all left begun old mid → left ≡ name ∷ rest
    → ask ≡ name → begun' ≡ begun ++ ask ∷ [] → Stays mid new → HasBegun all rest begun' old new
begun_more all left rest begun begun' name ask old mid new h next is longer stays = record {
  cut = h.cut ∙ ap (λ (l : List NameParts). begun ++ l) next ∙ sym (append_assoc begun (name ∷ []) rest) ∙ ap (λ (l : List NameParts). l ++ rest) (sym (longer ∙ ap (λ (n : NameParts). begun ++ n ∷ []) is));
  kept = same_then_stays old mid new h.kept stays;
}
