-- A block that a client has dirty leads what is filed: so it does in the small world of tokens, whose books and the index's table tell of the same logs.
use Rattle.std.proofs.Common.{◌≡◌, ℕ, zero, suc, ◌<◌, ◌≤◌, true, Some, refl, subst, arith}
use Rattle.std.proofs.lemmas.Bool.{eq-eqb}
use Rattle.headline.specs.Filed.{row_at}
use Rattle.node_slots.proofs.node_tie.SmallWorld.{with_promise}
use Rattle.node_slots.specs.node_index_tie.Sight.{held_in}
use Rattle.token_client.specs.Held.{is_dirty}
use Rattle.token_client.specs.State.{TokensState, held_of}
use Rattle.token_law.specs.Books.{said}
use Rattle.token_law.specs.Laws as small
use Rattle.token_law.specs.Net.{Net}
use Rattle.version_model.specs.Effects.{history_after}
use Rattle.version_model.specs.History.{nothing_yet}
use Rattle.world_base.specs.Cluster.{place_of}
use Rattle.run_laws.proofs.index_reads.Sayings.{Same, of_log, same_version}
use Rattle.run_laws.proofs.index_reads.Worlds.{begins, same}
use Rattle.run_laws.proofs.world_law.Laws as tokens
use Rattle.run_laws.proofs.world_reads.TurnRun.{moment_cluster}
use Rattle.run_laws.proofs.world_reads.Tying.{slot_tied}
use Rattle.run_laws.specs.index_reads.Ties.{Tied}
use Rattle.headline.specs.Moments.{moment, node_in}
use Rattle.headline.specs.Owners.{tokens_of}
use Rattle.run_laws.specs.world_law.Standing.{members}
use Rattle.headline.specs.Indexes.{DirtyBlocksLead, LeadsFiled}
use Rattle.headline.specs.Versions.{OwnsFrom}
use Rattle.run_laws.specs.world_reads.Joint.{Joint, k}
use Rattle.run_laws.specs.world_reads.LoggedRuns.{LoggedRun}
use Rattle.xfs_base.specs.Blocks.{slot_of}
use Rattle.xfs_base.specs.declared.block.BlockId.{BlockId}
use Rattle.xfs_base.specs.declared.node.NodeId.TheVariants.{Client}
use Rattle.xfs_base.specs.Limits.{slot_count, block_logs}

module _ (law : small.DirtyBlocksLead) (laws : tokens.NodeLaws) (logged : LoggedRun) (part : ℕ) (of_eight : part < slot_count) (count : ℕ)
    (joint : Joint logged part count) where
  open logged use {estate as e, texts}

  abbrev net : Net
  net = with_promise 1 joint.tok.net

  abbrev all_members : ℕ
  all_members = members (k logged part) part

  tied : Tied all_members part (held_in part texts.text) net joint.idx.net
  tied = slot_tied logged part of_eight count joint

  both : Same net.books joint.idx.net.filed
  both = same all_members part (held_in part texts.text) net joint.idx.net tied

  module _ (b : BlockId) (inside : slot_of b.ino.0 ≡ part) (version : ℕ) (greatest : small.IsGreatestFiled net b version) where
    -- what the books have of a filed segment the table has
    row_is : (l q : ℕ) → 0 < l → l ≤ block_logs → q ≤ joint.idx.net.filed.head l → (said net.books l q b).version ≡ (row_at joint.idx.net.filed b l q).ver
    row_is l q some limit to =
        same_version net.books joint.idx.net.filed both b (begins all_members part (held_in part texts.text) net joint.idx.net tied) l q some limit to

    upper : (l q : ℕ) → (row_at joint.idx.net.filed b l q).ver ≤ version
    upper l q = by (row_at joint.idx.net.filed b l q).ver refl
      where
        by : (v : ℕ) → (row_at joint.idx.net.filed b l q).ver ≡ v → (row_at joint.idx.net.filed b l q).ver ≤ version
        by zero none = omega arith
        by (suc v) has =
            let at = of_log net.books joint.idx.net.filed both b l q (omega arith) in
            let end = joint.books.end l at.some at.limit in
            let to = at.to in
            let row = row_is l q at.some at.limit at.to in
            let limit = greatest.upper l q (omega arith) in
            omega arith

  abbrev Serves : ℕ → TokensState → Type 0
  Serves c t = tokens.ServesThere laws (k logged part) part of_eight joint.tok c t

  leads : (b : BlockId) (c : ℕ) (t : TokensState) → slot_of b.ino.0 ≡ part → Serves c t → is_dirty (held_of (net.tokens c).blocks b) ≡ true
      → LeadsFiled (moment e count) joint.idx.net.filed b c (net.tokens c)
  leads b c t inside there dirty =
      let lead = law all_members part net b (record { run = joint.tokens_stand.runs; inside = eq-eqb (slot_of b.ino.0) part inside }) c there.client there.up dirty in
      record {
        settled = upper b inside (held_of (net.tokens c).blocks b).settled lead.settled;
        owns = subst (λ acts. OwnsFrom ((history_after acts nothing_yet).of_block b) c (held_of (net.tokens c).blocks b).settled (held_of (net.tokens c).blocks b).ver)
            joint.tokens_stand.acts (record { newest = lead.newest; own = lead.own });
      }

  pub dirty_blocks_lead : DirtyBlocksLead (moment e count) part joint.idx.net.filed
  dirty_blocks_lead b c t inside serves dirty =
      let w = moment e count in
      let there : Serves c t =
      tokens.serves_there laws (k logged part) part of_eight w.nodes w.sent w.acts joint.tok joint.tokens_stand c t
      (subst (λ cluster. tokens_of (node_in w.nodes (place_of cluster (Client c))) ≡ Some t) (moment_cluster e count) serves) in
      subst (λ (s : TokensState). is_dirty (held_of s.blocks b) ≡ true → LeadsFiled w joint.idx.net.filed b c s) there.tokens
      (leads b c t inside there) dirty
