-- What the types of a program's numbers say of what is put: a segment can hold it.
use Rattle.std.proofs.Common.{◌≡◌, ◌<◌, ℕ, suc, ◌+◌, ◌^◌, Bool, true, false, ◌&&◌, List, [], ◌∷◌, length, get_or, Option, Some, is_none, nat_lt, nat_le, refl, arith}
use Rattle.std.specs.List.{list_all}
use Rattle.std.proofs.lemmas.Bool.Decides.{nat_tests}
use Rattle.std.proofs.lemmas.Bool.{le-leb, lt-ltb}
use Rattle.segment_format.specs.Format.{second_version, is_length}
use Rattle.xfs_base.specs.declared.block.BlockId.{BlockId}
use Rattle.xfs_base.specs.Modes.{is_own}
use Rattle.xfs_base.specs.Value.{IsValue}
use Rattle.xfs_base.specs.Limits.{u64_end, max_value}
use Rattle.token_client.specs.declared.held.Held.{Held}
use Rattle.token_client.specs.Held.{may_write}
use Rattle.client_call.specs.Fitting.{block_fits, is_byte, value_fits, put_fits}

both : (a b : Bool) → a ≡ true → b ≡ true → (a && b) ≡ true
both true b h k = k
both false b h k = h

pub all_bytes : (bytes : List ℕ) → ((i : ℕ) → get_or bytes i 0 < 256) → list_all is_byte bytes ≡ true
all_bytes [] h = refl
all_bytes (b ∷ bytes) h = both (is_byte b) (list_all is_byte bytes) (lt-ltb b 256 (h 0)) (all_bytes bytes (λ i. h (suc i)))

pub value_fits_so : (bytes : List ℕ) → IsValue (Some bytes) → list_all is_byte bytes ≡ true → value_fits (Some bytes) ≡ true
value_fits_so bytes h all =
    both (is_length second_version (length bytes)) (list_all is_byte bytes)
    (both (nat_le 1 (length bytes)) (nat_le (length bytes) max_value) (le-leb 1 (length bytes) h.0) (le-leb (length bytes) max_value h.1)) all

-- a version that may be followed by another
next_fits : (may : Bool) (ver : ℕ) → (may && nat_lt ver u64_end) ≡ true → nat_lt (ver + 1) (2 ^ 64) ≡ true
next_fits true ver h = grind (arith, nat_tests)
next_fits false ver h = absurd (cc)

pub put_fits_so : (block : BlockId) (h : Held) (value : Option (List ℕ)) → nat_lt block.ino.0 (2 ^ 32) ≡ true → nat_lt block.blk (2 ^ 32) ≡ true
    → may_write h ≡ true → value_fits value ≡ true → put_fits block (h.ver + 1) value ≡ true
unfolding put_fits
put_fits_so block h value ino blk may fits =
    both (block_fits block) _ (both (nat_lt block.ino.0 (2 ^ 32)) _ ino blk)
    (both (nat_lt (h.ver + 1) (2 ^ 64)) (value_fits value) (next_fits (is_own h.mode && is_none h.giving) h.ver may) fits)
