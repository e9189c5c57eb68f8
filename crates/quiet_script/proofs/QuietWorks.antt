-- What a quiet work is: a put, a get or a sync of a client.
use Rattle.std.proofs.Common.{true≢false, ◌≡◌, ℕ, true, List, Option, sym}
use Rattle.headline.specs.Bounds.{is_quiet}
use Rattle.version_model.specs.declared.work.Work.{Work}
use Rattle.version_model.specs.declared.work.Work.TheVariants as works
use Rattle.xfs_base.specs.declared.block.BlockId.{BlockId}

-- what holds of each put, get and sync holds of each quiet work
pub each_quiet : (P : Work → Type 0) → ((c : ℕ) (b : BlockId) (value : Option (List ℕ)) → P (works.Bput c b value)) → ((c : ℕ) (b : BlockId) → P (works.Bget c b))
    → ((c : ℕ) → P (works.Sync c)) → (w : Work) → is_quiet w ≡ true → P w
each_quiet P puts gets syncs (works.Bput c b value) q = puts c b value
each_quiet P puts gets syncs (works.Bget c b) q = gets c b
each_quiet P puts gets syncs (works.Sync c) q = syncs c
each_quiet P puts gets syncs (works.File c call) q = absurd (true≢false (sym q))
each_quiet P puts gets syncs (works.Crash node) q = absurd (true≢false (sym q))
each_quiet P puts gets syncs (works.Restart node) q = absurd (true≢false (sym q))
each_quiet P puts gets syncs (works.Checkpoint j) q = absurd (true≢false (sym q))
each_quiet P puts gets syncs (works.Lose v) q = absurd (true≢false (sym q))
each_quiet P puts gets syncs (works.Rebuild v) q = absurd (true≢false (sym q))
each_quiet P puts gets syncs (works.Move slot j) q = absurd (true≢false (sym q))
each_quiet P puts gets syncs (works.Clean count) q = absurd (true≢false (sym q))
each_quiet P puts gets syncs (works.NetLose n) q = absurd (true≢false (sym q))
each_quiet P puts gets syncs (works.NetAgain n) q = absurd (true≢false (sym q))
each_quiet P puts gets syncs (works.NetMix n) q = absurd (true≢false (sym q))
each_quiet P puts gets syncs works.NetHold q = absurd (true≢false (sym q))
each_quiet P puts gets syncs works.NetGo q = absurd (true≢false (sym q))
each_quiet P puts gets syncs (works.NetStep n) q = absurd (true≢false (sym q))
each_quiet P puts gets syncs (works.BoardStop n) q = absurd (true≢false (sym q))
each_quiet P puts gets syncs (works.BoardStart n) q = absurd (true≢false (sym q))
each_quiet P puts gets syncs (works.ServerStop v passes) q = absurd (true≢false (sym q))
each_quiet P puts gets syncs (works.ServerStart v) q = absurd (true≢false (sym q))
