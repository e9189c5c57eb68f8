-- Where a sync is done, nothing of its client is dirty, and the join of what was filed is the newest version of each block that the client wrote last.
use Rattle.std.proofs.Common.{◌≡◌, ◌<◌, ◌≤◌, ◌+◌, ℕ, suc, nat_lt, Bool, true, false, List, [], ◌∷◌, length, slice_get, Some, None, refl, sym, ap, subst, ◌∙◌, arith}
use Rattle.std.proofs.lemmas.Bool.Decides.{nat_tests}
use Rattle.std.proofs.Math.Nat.{mod-lt}
use Rattle.client_node.specs.declared.phase.Phase.{Phase}
use Rattle.client_node.specs.declared.phase.Phase.TheVariants.{Down, Opening, Serving as Serves}
use Rattle.core_world.specs.declared.any_node.AnyNode.{AnyNode}
use Rattle.node_slots.specs.client_law.Events.{WhereItServes}
use Rattle.node_slots.specs.client_law.Unsettled.{WritesJustWhatIsDirty, WritesWhatIsDirty}
use Rattle.headline.specs.Calls.{IsDrained}
use Rattle.headline.specs.Linear.{HasDrained, SyncsDrain}
use Rattle.headline.specs.Restarts.{NoDoubtfulRestart}
use Rattle.headline.specs.Moments.{moment}
use Rattle.headline.specs.Owners.{tokens_at, tokens_in, tokens_of}
use Rattle.headline.specs.Versions.{OwnsFrom, history_at}
use Rattle.run_holdings.proofs.sync_law.Always.{always_at}
use Rattle.run_holdings.proofs.sync_law.Clean.{none_dirty}
use Rattle.headline.specs.Settled.{BlocksAreSettled, IsSettledAt, NobodyFell, NobodyHasDirty, SettledBelow}
use Rattle.headline.specs.Syncs.{IsJoined, SyncsSettle}
use Rattle.token_client.specs.Held.{is_dirty}
use Rattle.token_client.specs.State.{TokensState, held_of}
use Rattle.version_model.specs.declared.history.Version.{Version}
use Rattle.version_model.specs.Legal.{IsNewestBy}
use Rattle.world_base.specs.declared.estate.Estate.{Estate}
use Rattle.world_base.specs.declared.world.World.{World}
use Rattle.xfs_base.specs.Blocks.{slot_of}
use Rattle.xfs_base.specs.declared.block.BlockId.{BlockId}
use Rattle.xfs_base.specs.Limits.{slot_count}

-- whoever wrote the last version is the one by whom the newest is
by_last : (client d : ℕ) (versions : List Version) → IsNewestBy client versions
    → ((place : ℕ) (v : Version) → slice_get versions place ≡ Some v → place + 1 ≡ length versions → v.writer ≡ d) → d ≡ client
by_last client d [] is last = absurd is
by_last client d (v ∷ []) is last = sym (last 0 v refl refl) ∙ is
by_last client d (v ∷ w ∷ versions) is last =
    by_last client d (w ∷ versions) is (λ place x at end. last (suc place) x at (omega arith))

tokens_same : (s t : TokensState) → Some s ≡ Some t → s ≡ t
tokens_same s t fact = cc

no_tokens : (t : TokensState) → None ≡ Some t → ⊥
no_tokens t fact = cc

contrary : true ≡ false → ⊥
contrary fact = cc

module _ (writes : WritesJustWhatIsDirty) (e : Estate AnyNode) (client count : ℕ) (drained : HasDrained e client count) where
  abbrev w : World AnyNode
  w = moment e count

  clean_in : (p : Phase) → IsDrained p → WhereItServes WritesWhatIsDirty p → (b : BlockId) (t : TokensState) → tokens_in p ≡ Some t
      → is_dirty (held_of t.blocks b) ≡ false
  clean_in (Down l) is so b t there = absurd is
  clean_in (Opening l o) is so b t there = absurd is
  clean_in (Serves s) is so b t there =
      subst (λ (u : TokensState). is_dirty (held_of u.blocks b) ≡ false) (tokens_same s.tokens t there) (none_dirty s so is b)

  clean : (b : BlockId) (t : TokensState) → tokens_at w client ≡ Some t → is_dirty (held_of t.blocks b) ≡ false
  clean b t there =
      clean_in drained.node.phase drained.drained (always_at e WritesWhatIsDirty writes count client drained.node drained.there) b t
      (sym (ap tokens_of drained.there) ∙ there)

  module _ (settled : BlocksAreSettled e) (none : NoDoubtfulRestart e count) (b : BlockId) (newest : IsNewestBy client (history_at w b).versions) where
    abbrev part : ℕ
    part = slot_of b.ino.0

    within : part < slot_count
    within = mod-lt b.ino.0 (omega arith)

    at : IsSettledAt e settled.text count part
    at = settled.each count none part within

    -- who has it dirty wrote the newest version
    owner_is : (d : ℕ) (t : TokensState) → OwnsFrom (history_at w b) d (held_of t.blocks b).settled (held_of t.blocks b).ver
        → is_dirty (held_of t.blocks b) ≡ true → d ≡ client
    owner_is d t owns dirty =
        by_last client d (history_at w b).versions newest
        (λ place v there end.
        owns.own place v there (lies_above (held_of t.blocks b).settled (held_of t.blocks b).ver (length (history_at w b).versions) place owns.newest dirty end))
      where
        lies_above : (low high all place : ℕ) → high ≡ all → nat_lt low high ≡ true → place + 1 ≡ all → low ≤ place
        lies_above low high all place same less end = grind (arith, nat_tests)

    nobody_dirty : NobodyHasDirty w b
    nobody_dirty d t there = by (is_dirty (held_of t.blocks b)) refl
      where
        by : (x : Bool) → is_dirty (held_of t.blocks b) ≡ x → x ≡ false
        by false fact = refl
        by true fact =
            let below : SettledBelow w part at.filed b d t = at.dirty b d t refl there fact in
            let same : d ≡ client = owner_is d t below.owns fact in
            let mine : is_dirty (held_of t.blocks b) ≡ false = clean b t (ap (tokens_at w) (sym same) ∙ there) in
            absurd (contrary (sym fact ∙ mine))

    joined : NobodyFell w b → IsJoined e count b
    joined fell = record { filed = at.filed; own = at.own; newest = at.clean b refl nobody_dirty fell }

pub syncs_so : (writes : WritesJustWhatIsDirty) (e : Estate AnyNode) → SyncsDrain e → BlocksAreSettled e → SyncsSettle e
syncs_so writes e drain settled count event happens client item among syncs =
    let drained : HasDrained e client (suc count) = drain count event happens client item among syncs in
    record {
      clean = clean writes e client (suc count) drained;
      joined = λ none b newest fell. joined writes e client (suc count) drained settled none b newest fell;
    }
