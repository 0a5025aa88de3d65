-- A recursion over the room that is left, beside a loop that counts up.
use Rattle.std.proofs.Common.{◌≡◌, ℕ, suc, ◌+◌, ◌-◌, ◌<◌, ◌≤◌, Bool, List, cond, refl, ap, ◌∙◌, arith}
use Rattle.bc_syntax.specs.declared.syntax.RegionName.{RegionName}
use Rattle.bc_syntax.specs.declared.syntax.Reference.{Reference}
use Rattle.bc_syntax.specs.declared.syntax.Projection.{Projection}
use Rattle.bc_syntax.specs.declared.syntax.Statement.{Statement}
use Rattle.bc_syntax.specs.declared.syntax.Block.{Block}
use Rattle.bc_syntax.specs.declared.syntax.Ty.{Ty}
use Rattle.bc_syntax.specs.declared.symbol.Symbol.TheVariants as symbols
use Rattle.bc_syntax.specs.declared.numbering.Numbering.TheVariants as numberings
use Rattle.bc_tokens.specs.Token.{Tokens}
use Rattle.bc_tokens.specs.Parser.{Outcome, Parser, pure, past_limit, refuse, sees, sees_numbered, declared_from, declared_turn}
use Rattle.bc_text.specs.Reading.{ty_from, ty_turn, projections_from, projections_turn, block_from, block_turn, blocks_from, blocks_turn, lets_from, lets_turn, begins_ty, begins_point, fields_from, fields_turn, declarations_from, declarations_turn, begins_declaration}
use Rattle.bc_syntax.specs.declared.syntax.Declaration.{Declaration}

pub one_more : {X : Type 0} {x : X} (f : ℕ → X) (n at : ℕ) → at < n → x ≡ f (n - at) → x ≡ f (suc (n - (at + 1)))
one_more f n at below e = let turn : n - at ≡ suc (n - (at + 1)) = omega arith in e ∙ ap f turn

pub no_more : {X : Type 0} {x : X} (f : ℕ → X) (n at : ℕ) → n ≤ at → x ≡ f (n - at) → x ≡ f 0
no_more f n at done e = let none : n - at ≡ 0 = omega arith in e ∙ ap f none

pub ty_goes : (variables : Bool) (regions : List RegionName) (n : ℕ) (found : List Reference) (ts : Tokens) → ty_from variables regions (suc n) found ts ≡ ty_turn variables regions (ty_from variables regions n) found ts
unfolding ty_from
ty_goes variables regions n found ts = refl

pub projections_go : (n : ℕ) (found : List Projection) (ts : Tokens) → projections_from (suc n) found ts ≡ projections_turn (projections_from n) found ts
unfolding projections_from
projections_go n found ts = refl

pub block_goes : (regions : List RegionName) (locals : ℕ) (n : ℕ) (found : List Statement) (ts : Tokens) → block_from regions locals (suc n) found ts ≡ block_turn regions locals (block_from regions locals n) found ts
unfolding block_from
block_goes regions locals n found ts = refl

pub lets_go : (regions : List RegionName) (number n : ℕ) (found : List Ty) (ts : Tokens) → lets_from regions number (suc n) found ts ≡ lets_turn regions number (lets_from regions number n) found ts
unfolding lets_from
lets_go regions number n found ts = refl

pub projections_stop : (found : List Projection) (ts : Tokens) → projections_from 0 found ts ≡ cond (sees symbols.Dot ts) (past_limit ts) (pure found ts)
unfolding projections_from
projections_stop found ts = refl

pub ty_stops : (variables : Bool) (regions : List RegionName) (found : List Reference) (ts : Tokens) → ty_from variables regions 0 found ts ≡ cond (begins_ty ts) (past_limit ts) (refuse ts)
unfolding ty_from
ty_stops variables regions found ts = refl

pub block_stops : (regions : List RegionName) (locals : ℕ) (found : List Statement) (ts : Tokens) → block_from regions locals 0 found ts ≡ cond (begins_point ts) (past_limit ts) (refuse ts)
unfolding block_from
block_stops regions locals found ts = refl

pub lets_stop : (regions : List RegionName) (number : ℕ) (found : List Ty) (ts : Tokens) → lets_from regions number 0 found ts ≡ refuse ts
unfolding lets_from
lets_stop regions number found ts = refl

pub blocks_go : (regions : List RegionName) (locals : ℕ) (n left : ℕ) (found : List Block) (ts : Tokens) → blocks_from regions locals (suc n) left found ts ≡ cond (sees_numbered numberings.Label ts) (blocks_turn regions locals (blocks_from regions locals n) left found ts) (pure found ts)
unfolding blocks_from
blocks_go regions locals n left found ts = refl

pub blocks_stop : (regions : List RegionName) (locals : ℕ) (left : ℕ) (found : List Block) (ts : Tokens) → blocks_from regions locals 0 left found ts ≡ refuse ts
unfolding blocks_from
blocks_stop regions locals left found ts = refl

pub fields_go : (regions : List RegionName) (n : ℕ) (found : List Ty) (ts : Tokens) → fields_from regions (suc n) found ts ≡ cond (begins_ty ts) (fields_turn regions (fields_from regions n) found ts) (pure found ts)
unfolding fields_from
fields_go regions n found ts = refl

pub fields_stop : (regions : List RegionName) (found : List Ty) (ts : Tokens) → fields_from regions 0 found ts ≡ cond (begins_ty ts) (past_limit ts) (pure found ts)
unfolding fields_from
fields_stop regions found ts = refl

pub declarations_go : (n : ℕ) (found : List Declaration) (ts : Tokens) → declarations_from (suc n) found ts ≡ cond (begins_declaration ts) (declarations_turn (declarations_from n) found ts) (pure found ts)
unfolding declarations_from
declarations_go n found ts = refl

pub declarations_stop : (found : List Declaration) (ts : Tokens) → declarations_from 0 found ts ≡ refuse ts
unfolding declarations_from
declarations_stop found ts = refl

-- a turn of a list, and the end after the last
pub items_go : {A : Type 0} {x : Outcome (List A)} (begins : Tokens → Bool) (item : List A → Parser A) (found : List A) (ts : Tokens) (n at : ℕ) → at < n → x ≡ declared_from begins item (n - at) found ts → x ≡ declared_turn item (declared_from begins item (n - (at + 1))) found ts
unfolding declared_from
items_go begins item found ts n at below e = one_more (λ k. declared_from begins item k found ts) n at below e

pub items_stop : {A : Type 0} {x : Outcome (List A)} (begins : Tokens → Bool) (item : List A → Parser A) (found : List A) (ts : Tokens) (n at : ℕ) → n ≤ at → x ≡ declared_from begins item (n - at) found ts → x ≡ cond (begins ts) (past_limit ts) (refuse ts)
unfolding declared_from
items_stop begins item found ts n at done e = no_more (λ k. declared_from begins item k found ts) n at done e
