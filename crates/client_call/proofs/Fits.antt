-- What is put where a segment can hold it fits the format of a segment.
use Rattle.std.proofs.Common.{◌≡◌, ◌<◌, ℕ, ◌^◌, true, List, [], ◌∷◌, length, Option, Some, None, nat_lt, nat_le}
use Rattle.std.specs.Prelude.{IfSome}
use Rattle.std.specs.List.{list_all}
use Rattle.std.proofs.lemmas.List.Elements.{All-nil, All-cons}
use Rattle.std.proofs.lemmas.Bool.{leb-true, ltb-true}
use Rattle.segment_format.specs.Format.{second_version, IsLength, is_length}
use Rattle.segment_format.specs.Ranges.{FitsBlock}
use Rattle.stripe_code.specs.Stripe.{IsBytes}
use Rattle.xfs_base.proofs.Booleans.{and_first, and_second}
use Rattle.xfs_base.specs.declared.block.BlockId.{BlockId}
use Rattle.xfs_base.specs.Limits.{max_value}
use Rattle.client_call.specs.Fitting.{block_fits, is_byte, value_fits}

pub block_is_fit : (block : BlockId) → block_fits block ≡ true → FitsBlock block
block_is_fit block h = (
  ltb-true block.ino.0 (2 ^ 32) (and_first (nat_lt block.ino.0 (2 ^ 32)) (nat_lt block.blk (2 ^ 32)) h),
  ltb-true block.blk (2 ^ 32) (and_second (nat_lt block.ino.0 (2 ^ 32)) (nat_lt block.blk (2 ^ 32)) h),
)

length_is_fit : (n : ℕ) → is_length second_version n ≡ true → IsLength second_version n
length_is_fit n h = (leb-true 1 n (and_first (nat_le 1 n) (nat_le n max_value) h), leb-true n max_value (and_second (nat_le 1 n) (nat_le n max_value) h))

are_bytes : (bytes : List ℕ) → list_all is_byte bytes ≡ true → IsBytes bytes
are_bytes [] h = All-nil (λ byte. byte < 256)
are_bytes (b ∷ bytes) h =
    All-cons (λ byte. byte < 256) b bytes (ltb-true b 256 (and_first (is_byte b) (list_all is_byte bytes) h))
    (are_bytes bytes (and_second (is_byte b) (list_all is_byte bytes) h))

pub value_has_length : (value : Option (List ℕ)) → value_fits value ≡ true → IfSome value (λ bytes. IsLength second_version (length bytes))
value_has_length None h = tt
value_has_length (Some bytes) h = length_is_fit (length bytes) (and_first (is_length second_version (length bytes)) (list_all is_byte bytes) h)

pub value_has_bytes : (value : Option (List ℕ)) → value_fits value ≡ true → IfSome value IsBytes
value_has_bytes None h = tt
value_has_bytes (Some bytes) h = are_bytes bytes (and_second (is_length second_version (length bytes)) (list_all is_byte bytes) h)
