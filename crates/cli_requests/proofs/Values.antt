-- The value of a line.
use Rattle.std.proofs.Common.{◌≡◌, ℕ, ◌<◌, ◌≤◌, Bool, true, false, List, length, Some, None, Err, Ok, refl, arith}
use Rattle.std.specs.Prelude.{nat_lt}
use Rattle.std.specs.Str.{IsUtf8, is_utf8}
use Rattle.std.proofs.lemmas.Str.{IsUtf8-from_is_utf8, is_utf8-from_IsUtf8}
use Rattle.std.proofs.lemmas.Bool.Decides.{nat_tests}
use Rattle.serde_json.specs.Data.{Data}
use Rattle.serde_json.specs.Read.{read}
use Rattle.cli_requests.specs.declared.request.TheConstants.{MOST_REQUEST_BYTES}
use Rattle.cli_requests.specs.declared.fault.RequestFault.TheVariants.{TooLong, NotJson}
use Rattle.cli_requests.specs.Lines.{json_of, value_of}

is_long : (n : ℕ) → MOST_REQUEST_BYTES < n → nat_lt MOST_REQUEST_BYTES n ≡ true
is_long n h = grind (arith, nat_tests)

is_short : (n : ℕ) → n ≤ MOST_REQUEST_BYTES → nat_lt MOST_REQUEST_BYTES n ≡ false
is_short n h = grind (arith, nat_tests)

-- a line that is too long
pub too_long : (line : List ℕ) → MOST_REQUEST_BYTES < length line → value_of line ≡ Err TooLong
unfolding value_of
too_long line long = rw (is_long (length line) long) refl

-- a line with a value
pub has_value : (line : List ℕ) (value : Data) → length line ≤ MOST_REQUEST_BYTES → IsUtf8 line → read line ≡ Some value → value_of line ≡ Ok value
unfolding value_of
has_value line value short utf8 is = rw (is_short (length line) short, is_utf8-from_IsUtf8 line utf8, is) refl

no_json : (line : List ℕ) (b : Bool) → is_utf8 line ≡ b → (IsUtf8 line → read line ≡ None) → json_of line ≡ None
no_json line true is none = rw is (none (IsUtf8-from_is_utf8 line is))
no_json line false is none = rw is refl

-- a line without a value
pub has_no_value : (line : List ℕ) → length line ≤ MOST_REQUEST_BYTES → (IsUtf8 line → read line ≡ None) → value_of line ≡ Err NotJson
unfolding value_of
has_no_value line short none = rw (is_short (length line) short, no_json line (is_utf8 line) refl none) refl
