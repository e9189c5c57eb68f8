-- A segment of changes that a segment can hold is written: its text is of bytes and says the segment.
use Rattle.std.proofs.Common.{◌≡◌, ◌<◌, ◌≤◌, ℕ, ◌^◌, true, List, [], ◌∷◌, length, Ok, Option, None, sym, subst, arith}
use Rattle.std.specs.List.{AllByRecursion}
use Rattle.client_call.proofs.Fits.{block_is_fit, value_has_bytes, value_has_length}
use Rattle.client_call.specs.Fitting.{block_fits, value_fits}
use Rattle.indexmap.specs.IndexMap.{insert_entry}
use Rattle.log_flight.specs.declared.dirty.Change.{Change}
use Rattle.log_flight.specs.Items.{items_of}
use Rattle.segment_format.proofs.SegmentLaws.{answer_again}
use Rattle.segment_format.specs.declared.segment.Segment.{Segment}
use Rattle.segment_format.specs.Format.{IsLog}
use Rattle.segment_format.specs.Ranges.{FitsName, FitsPrior}
use Rattle.segment_format.specs.ReadingItems.{answer_of}
use Rattle.segment_format.specs.Text.{text_of}
use Rattle.stripe_code.specs.Stripe.{IsBytes}
use Rattle.xfs_base.proofs.Booleans.{by_test}
use Rattle.xfs_base.specs.Blocks.{same_block}
use Rattle.xfs_base.specs.declared.block.BlockId.{BlockId}
use Rattle.xfs_base.proofs.Alls.{all_weaker}
use Rattle.log_law.specs.Events.{IsWritten}
use Rattle.log_law.proofs.Texts.{ChangeFits, ItemsFit, items_fit, segment_written}
use Rattle.quiet_law.specs.Drained.{IsWritable}

-- ---- the segment

pub record IsSpelled (s : Segment) : Type 0 where
  pub text : answer_of (text_of s) ≡ Ok s
  pub bytes : IsBytes (text_of s)

change_of : (c : BlockId × Change) → IsWritable c → ChangeFits c
change_of c h = record { row = h.row; length = h.length; bytes = h.bytes }

pub spelled : (s : Segment) (cs : List (BlockId × Change)) → length cs ≤ 24 → AllByRecursion IsWritable cs → s.items ≡ items_of 0 cs → IsLog s.name.log.0
    → FitsName s.name → FitsPrior s.prior → s.group < 2 ^ 32 → IsSpelled s
spelled s cs few all is log name prior group =
    let items : ItemsFit s.items = subst ItemsFit (sym is) (items_fit cs few (all_weaker IsWritable ChangeFits change_of cs all)) in
    let written : IsWritten s = segment_written s (record { log = log; name = name; prior = prior; group = group; items = items }) in
    record { text = answer_again (text_of s) s written.fits written.text; bytes = written.bytes }

-- ---- what is put

pub put_writable : (b : BlockId) (ver : ℕ) (value : Option (List ℕ)) → block_fits b ≡ true → value_fits value ≡ true → ver < 2 ^ 64
    → IsWritable (b, record { entry = record { ver = ver; hop = 0; place = None }; value = value })
put_writable b ver value in_range fits low = record {
  row = (block_is_fit b in_range, low, omega arith, tt);
  length = value_has_length value fits;
  bytes = value_has_bytes value fits;
}

pub inserted_fit : (block : BlockId) (change : Change) (cs : List (BlockId × Change)) → IsWritable (block, change) → AllByRecursion IsWritable cs
    → AllByRecursion IsWritable (insert_entry same_block cs block change)
inserted_fit block change [] new all = (new, tt)
inserted_fit block change (c ∷ cs) new all =
    by_test (AllByRecursion IsWritable) (same_block block c.0) ((c.0, change) ∷ cs) (c ∷ insert_entry same_block cs block change)
    (λ t. (record { row = (all.0.row.0, new.row.1, new.row.2, new.row.3); length = new.length; bytes = new.bytes }, all.1))
    (λ t. (all.0, inserted_fit block change cs new all.1))
