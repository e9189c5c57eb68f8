-- What is settled of the blocks of a slot, at a moment that stands to the small worlds of tokens and of the index: by what is filed in the latter, whose rows say
-- what the books of the former have.
use Rattle.std.proofs.Common.{◌≡◌, ℕ, zero, suc, ◌<◌, ◌≤◌, true, false, length, Some, refl, sym, ap, subst, ◌∙◌, arith}
use Rattle.std.proofs.lemmas.Bool.{eq-eqb}
use Rattle.client_node.specs.declared.phase.Phase.{Phase}
use Rattle.client_node.specs.declared.phase.Phase.TheVariants.{Down, Opening, Serving as Serves}
use Rattle.headline.specs.Filed.{Filed}
use Rattle.node_slots.specs.node_tie.Promised.{with_promise}
use Rattle.node_slots.specs.node_index_tie.Sight.{held_in}
use Rattle.node_slots.specs.node_tie.ClientEvents.{ClientAgrees}
use Rattle.run_laws.proofs.index_reads.Sayings.{BeginsAtOne, Same}
use Rattle.run_laws.proofs.index_reads.Worlds as worlds
use Rattle.run_laws.proofs.world_law.Laws as tokens
use Rattle.run_laws.proofs.world_reads.TurnRun.{moment_cluster}
use Rattle.run_laws.proofs.world_reads.Tying.{slot_tied}
use Rattle.run_laws.specs.index_reads.Ties.{Tied}
use Rattle.headline.specs.Falls.{Names}
use Rattle.headline.specs.Moments.{moment, node_in}
use Rattle.headline.specs.Owners.{tokens_in, tokens_of}
use Rattle.run_laws.specs.world_law.Standing.{members}
use Rattle.headline.specs.Indexes.{DirtyBlocksLead}
use Rattle.headline.specs.Versions.{IsNewest}
use Rattle.run_laws.specs.world_reads.Joint.{Joint, k}
use Rattle.run_laws.specs.world_reads.LoggedRuns.{LoggedRun}
use Rattle.run_holdings.proofs.settled_law.Clean.{HasJoin, has_join}
use Rattle.run_holdings.proofs.settled_law.Rows.{settled_lower, settled_nothing, settled_upper, settled_value}
use Rattle.headline.specs.Settled.{CleanBlocksAreSettled, DirtyBlocksAreSettledBelow, lies_at, settled_entry}
use Rattle.token_client.specs.Held.{is_dirty}
use Rattle.token_client.specs.State.{TokensState, held_of}
use Rattle.token_law.specs.Laws.{IsClient, versions_of}
use Rattle.token_law.specs.Net.{Net}
use Rattle.version_model.specs.Effects.{history_after}
use Rattle.version_model.specs.History.{content_at, nothing_yet}
use Rattle.world_base.specs.Cluster.{place_of}
use Rattle.world_base.specs.declared.cluster.Cluster.{Cluster}
use Rattle.xfs_base.proofs.Booleans.{contrary}
use Rattle.xfs_base.specs.Blocks.{slot_of}
use Rattle.xfs_base.specs.declared.block.BlockId.{BlockId}
use Rattle.xfs_base.specs.declared.node.NodeId.TheVariants.{Client}
use Rattle.xfs_base.specs.Limits.{slot_count}

module _ (laws : tokens.NodeLaws) (logged : LoggedRun) (part : ℕ) (of_eight : part < slot_count) (count : ℕ) (joint : Joint logged part count) where
  open logged use {estate as e, texts}

  abbrev net : Net
  net = with_promise 1 joint.tok.net

  abbrev f : Filed
  f = joint.idx.net.filed

  abbrev cluster : Cluster
  cluster = k logged part

  abbrev all_members : ℕ
  all_members = members cluster part

  tied : Tied all_members part (held_in part texts.text) net joint.idx.net
  tied = slot_tied logged part of_eight count joint

  both : Same net.books f
  both = worlds.same all_members part (held_in part texts.text) net joint.idx.net tied

  begins : BeginsAtOne net.books
  begins = worlds.begins all_members part (held_in part texts.text) net joint.idx.net tied

  module _ (b : BlockId) (inside : slot_of b.ino.0 ≡ part) where
    joins : HasJoin all_members net b
    joins =
        has_join all_members part net b (omega arith) (record { run = joint.tokens_stand.runs; inside = eq-eqb (slot_of b.ino.0) part inside })

    -- the join of what is filed is of the version that the small world of tokens has
    is_join : (settled_entry f b).ver ≡ joins.version
    is_join = by joins.version refl
      where
        upper : (settled_entry f b).ver ≤ joins.version
        upper = settled_upper net.books f both begins b joins.version joins.upper

        by : (n : ℕ) → joins.version ≡ n → (settled_entry f b).ver ≡ joins.version
        by zero none = (let most = upper in omega arith)
        by (suc n) some =
            let most = upper in
            let positive : 0 < joins.version = omega arith in
            let attained = joins.attained positive in
            let few : all_members ≤ 9 = joint.tokens_stand.few in
            let within = joins.within positive in
            let limit : joins.log ≤ 9 = omega arith in
            let lower = settled_lower net.books f both begins b joins.log joins.seq (joins.some positive) limit (joins.filed positive) (omega arith) in
            omega arith

    -- ---- where nobody has it dirty

    module _ (newest : joins.version ≡ length (versions_of net b)) where
      its_content : content_at (settled_entry f b).ver (versions_of net b) ≡ Some (lies_at f (settled_entry f b).place)
      its_content = by (length (versions_of net b)) refl
        where
          same : (settled_entry f b).ver ≡ length (versions_of net b)
          same = is_join ∙ newest

          by : (n : ℕ) → length (versions_of net b) ≡ n → content_at (settled_entry f b).ver (versions_of net b) ≡ Some (lies_at f (settled_entry f b).place)
          by zero none =
              ap (λ n. content_at n (versions_of net b)) (same ∙ none) ∙ ap Some (sym (settled_nothing net.books f both begins b (same ∙ none)))
          by (suc n) some =
              ap (λ n. content_at n (versions_of net b)) same
              ∙ settled_value net.books f both begins b
              (λ value. content_at (length (versions_of net b)) (versions_of net b) ≡ Some value) (length (versions_of net b)) (omega arith)
              (λ l q filed is. joins.content l q filed (omega arith) is) same

      is_newest : IsNewest ((history_after net.acts nothing_yet).of_block b) (settled_entry f b).ver (lies_at f (settled_entry f b).place)
      is_newest = record { newest = is_join ∙ newest; content = its_content }

    -- ---- clients

    -- a client that is up in the small world serves, with these tokens
    serves : (P : TokensState → Type 0) → ((c : ℕ) (t : TokensState) → tokens_of (node_in (moment e count).nodes (place_of cluster (Client c))) ≡ Some t → P t)
        → (c : ℕ) → IsClient all_members c → net.up c ≡ true → P (net.tokens c)
    serves P each c fact up =
        by (joint.tok.client c).phase (joint.tokens_stand.clients c fact.some fact.within).0
        (ap tokens_of (joint.tokens_stand.placed.clients c fact.some fact.within))
      where
        by : (p : Phase) → ClientAgrees true part c joint.tok.net p → tokens_of (node_in (moment e count).nodes (place_of cluster (Client c))) ≡ tokens_in p
            → P (net.tokens c)
        by (Down l) agrees at = contrary (sym agrees.up ∙ up)
        by (Opening l o) agrees at = contrary (sym agrees.up ∙ up)
        by (Serves s) agrees at = subst P (sym agrees.tokens) (each c s.tokens at)

  pub clean : CleanBlocksAreSettled (moment e count) part f
  clean b inside nobody none =
      subst (λ acts. IsNewest ((history_after acts nothing_yet).of_block b) (settled_entry f b).ver (lies_at f (settled_entry f b).place))
      joint.tokens_stand.acts
      (is_newest b inside
      ((joins b inside).newest
      (serves b inside (λ t. is_dirty (held_of t.blocks b) ≡ false)
      (λ c t at. nobody c t (subst (λ x. tokens_of (node_in (moment e count).nodes (place_of x (Client c))) ≡ Some t) (sym (moment_cluster e count)) at)))
      (subst (λ acts. (c : ℕ) → Names b ((history_after acts nothing_yet).told c) → ⊥) (sym joint.tokens_stand.acts) none)))

  -- ---- where a client has it dirty

  pub dirty : DirtyBlocksLead (moment e count) part f → DirtyBlocksAreSettledBelow (moment e count) part f
  dirty leads b c t inside at is =
      let there : tokens.ServesThere laws cluster part of_eight joint.tok c t =
      tokens.serves_there laws cluster part of_eight (moment e count).nodes (moment e count).sent (moment e count).acts joint.tok joint.tokens_stand c t
      (subst (λ x. tokens_of (node_in (moment e count).nodes (place_of x (Client c))) ≡ Some t) (moment_cluster e count) at) in
      record {
        settled = is_join b inside
            ∙ subst (λ (s : TokensState). is_dirty (held_of s.blocks b) ≡ true → (joins b inside).version ≡ (held_of s.blocks b).settled) there.tokens
            (λ d. sym ((joins b inside).settled c there.client there.up d)) is;
        owns = (leads b c t inside at is).owns;
      }
