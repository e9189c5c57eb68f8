use Rattle.std.proofs.Common.{◌≡◌, ◌∙◌, ℕ, sym, ap, subst, Some, arith}
use Rattle.std.specs.Prelude.{List as Seq, slice_get}
use Rattle.script_text.specs.declared.script.Script.{Script}
use Rattle.world_base.specs.Cluster.{cluster_of, node_at}
use Rattle.journals.specs.declared.moment.Moment.{Moment}
use Rattle.journals.specs.Journals.{whats}
use Rattle.journals.specs.Merging.{whats_of}
use Rattle.live_run.specs.Live.{IsLive}
use Rattle.mounts.proofs.Said.{is_mounted}
use Rattle.mounts.proofs.running.told.Goals as goal

pub merged-requires-clause-count : goal.merged-requires-clause-count
merged-requires-clause-count g c =
    let first = c.in_ok-parts.ensures.count in
    let whole = c.in_ok-all.ensures.count in
    let all = c.requires.count in
    omega arith

pub returns-clause-mounted : goal.returns-clause-mounted
returns-clause-mounted g c =
    let script = g.R.RunName.script in
    let same = c.requires.script in
    let made = c.in_ok-parts.ensures in
    let estate = c.in_ok-estate.estate in
    let lists = c.into_lists-calls.ensures in
    let each : (p : ℕ) (j : Seq Moment) → slice_get c.in_ok-all.all.journals.items p ≡ Some j → whats_of (node_at (cluster_of script.setup) p) estate.events ≡ whats j =
    subst (λ (s : Script). (p : ℕ) (j : Seq Moment) → slice_get c.in_ok-all.all.journals.items p ≡ Some j → whats_of (node_at (cluster_of s.setup) p) estate.events ≡ whats j) same
    c.in_ok-estate.ensures.each
    in
    rw (lists.0, lists.1) (is_mounted g.N.Actor.transition g.N.Member.first script c.args.full estate
    (subst (λ b. IsLive g.N.Actor.transition g.N.Member.first b estate) (c.in_ok-all.ensures.full ∙ made.full) c.in_ok-estate.ensures.run) c.in_ok-parts.parts.journals.items c.in_ok-all.all.journals.items c.in_ok-parts.told.calls
    c.in_ok-parts.told.replies (c.in_ok-estate.ensures.script ∙ same) made.told c.in_ok-all.ensures.front each
    (made.replies ∙ c.requires.clients ∙ ap (λ (s : Script). s.setup.clients) same) (made.count ∙ sym made.replies))
