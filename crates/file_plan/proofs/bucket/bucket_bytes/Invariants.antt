use Rattle.std.proofs.Common.{◌≡◌, ◌++◌, drop}
use Rattle.file_plan.specs.Format.{bucket_bytes}
use Rattle.file_plan.proofs.bucket.bucket_bytes.Given as goal

abbrev pub invariant-loop-name : goal.invariant-loop-name
invariant-loop-name l = l.bytes.items ++ bucket_bytes (drop l.name-index l.rows) ≡ bucket_bytes l.rows
