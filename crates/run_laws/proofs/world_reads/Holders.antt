-- What a client holds could be read: the read would be a step of the small world, in which all reads are of the newest version, with its value.
use Rattle.std.proofs.Common.{◌≡◌, ℕ, ◌<◌, Bool, true, false, if◌then◌else◌, List, [], ◌∷◌, ◌++◌, Some, refl, sym, ap, subst, ◌∙◌, append-nil}
use Rattle.act_tie.proofs.Onward.{acts_on, apart_on}
use Rattle.act_tie.specs.BlockActs.{acts_of}
use Rattle.version_model.specs.Falls.{FallsApart}
use Rattle.node_slots.proofs.node_tie.SmallWorld.{with_promise}
use Rattle.token_client.specs.State.{TokensState, held_of}
use Rattle.token_law.specs.Laws.{ActsAreLegal}
use Rattle.token_law.specs.Net.{Net, Runs, acted, opening}
use Rattle.token_law.specs.Net.Happens.{Reads}
use Rattle.token_law.specs.Net.Runs.{On}
use Rattle.token_protocol.specs.Acts.{LegalActs}
use Rattle.version_model.specs.declared.act.Act.{Act}
use Rattle.version_model.specs.declared.act.Act.TheVariants as act
use Rattle.version_model.specs.Effects.{after_act, history_after}
use Rattle.version_model.specs.History.{Content, History, nothing_yet}
use Rattle.version_model.specs.Legal.{AreLegalFrom, IsLegalIn}
use Rattle.world_base.specs.Cluster.{place_of}
use Rattle.run_laws.proofs.world_law.Laws as tokens
use Rattle.run_laws.proofs.world_law.RegistryTurns.{slot_below}
use Rattle.run_laws.proofs.world_reads.LegalJoints.{of_block}
use Rattle.run_laws.proofs.world_reads.TurnRun.{moment_cluster}
use Rattle.headline.specs.Moments.{moment, node_in}
use Rattle.headline.specs.Owners.{tokens_of}
use Rattle.run_laws.specs.world_law.Standing.{members}
use Rattle.run_laws.specs.world_reads.TokensBelow.{BlocksMakeLegal}
use Rattle.headline.specs.Versions.{HoldersAreNewest, IsNewest, history_at}
use Rattle.run_laws.specs.world_reads.Joint.{Joint, k}
use Rattle.run_laws.specs.world_reads.LoggedRuns.{LoggedRun}
use Rattle.xfs_base.proofs.BlockOrder.{same_block_exact}
use Rattle.xfs_base.proofs.Booleans.{contrary, equal_itself}
use Rattle.xfs_base.specs.Blocks.{same_block, slot_of}
use Rattle.xfs_base.specs.declared.block.BlockId.{BlockId}
use Rattle.xfs_base.specs.declared.node.NodeId.TheVariants.{Client}
use Rattle.xfs_base.specs.Modes.{is_held}
use Rattle.xfs_base.specs.Limits.{slot_count}

-- where acts are legal, the last of them is, after the others
last_legal : (acts : List Act) (a : Act) (h : History) → AreLegalFrom h (acts ++ a ∷ []) → IsLegalIn a (history_after acts h)
last_legal [] a h legal = legal.0
last_legal (x ∷ acts) a h legal = last_legal acts a (after_act x h) legal.1

-- what isn't told
untold : {X : Type 0} (t : Bool) (xs : List X) → t ≡ false → (if t then xs else []) ≡ []
untold true xs fact = contrary (sym fact)
untold false xs fact = refl

module _ (law : ActsAreLegal) (blocks : BlocksMakeLegal) (laws : tokens.NodeLaws) (logged : LoggedRun) (count : ℕ)
    (apart : FallsApart (moment logged.estate count).acts) (joints : (part : ℕ) → part < slot_count → Joint logged part count) where
  open logged use {estate as e}

  abbrev all : List Act
  all = (moment e count).acts

  module _ (b : BlockId) where
    abbrev part : ℕ
    part = slot_of b.ino.0

    abbrev joint : Joint logged part count
    joint = joints part (slot_below b.ino.0)

    abbrev net : Net
    net = with_promise 1 joint.tok.net

    abbrev Serves : ℕ → TokensState → Type 0
    Serves c t = tokens.ServesThere laws (k logged part) part (slot_below b.ino.0) joint.tok c t

    -- the client reads the block
    module _ (c : ℕ) (t : TokensState) (value : Content) (there : Serves c t) (held : is_held (held_of (net.tokens c).blocks b).mode ≡ true)
        (has : (held_of (net.tokens c).blocks b).value ≡ Some value) where
      abbrev read : Act
      read = act.Read c b (held_of (net.tokens c).blocks b).ver value

      runs : Runs true (members (k logged part) part) part opening (acted net (read ∷ []))
      runs = On joint.tokens_stand.runs (Reads c b value there.client.some there.client.within there.up held has)

      own : LegalActs (acts_of b (all ++ read ∷ []))
      own =
          subst (λ acts. LegalActs (acts_of b (acts ++ read ∷ []))) joint.tokens_stand.acts
          (law (members (k logged part) part) part (acted net (read ∷ [])) b (record { run = runs; inside = equal_itself part }))

      each : (other : BlockId) → LegalActs (acts_of other (all ++ read ∷ []))
      each other = by (same_block b other) refl
        where
          by : (t : Bool) → same_block b other ≡ t → LegalActs (acts_of other (all ++ read ∷ []))
          by true fact = subst (λ x. LegalActs (acts_of x (all ++ read ∷ []))) (sym (same_block_exact b other fact)) own
          by false fact =
              subst LegalActs
              (sym (acts_on other all read ∙ ap (λ more. acts_of other all ++ more) (untold (same_block b other) _ fact) ∙ append-nil (acts_of other all)))
              (of_block law blocks logged count apart joints other)

      newest : IsNewest (history_at (moment e count) b) (held_of (net.tokens c).blocks b).ver value
      newest =
          let legal = last_legal all read nothing_yet (blocks (all ++ read ∷ []) (apart_on all read nothing_yet apart tt) each) in
          record { newest = legal.0; content = legal.1 }

  pub holders_are_newest : HoldersAreNewest (moment e count)
  holders_are_newest b c t value serves held has =
      let w = moment e count in
      let there : Serves b c t =
      tokens.serves_there laws (k logged (part b)) (part b) (slot_below b.ino.0) w.nodes w.sent w.acts (joint b).tok (joint b).tokens_stand c t
      (subst (λ cluster. tokens_of (node_in w.nodes (place_of cluster (Client c))) ≡ Some t) (moment_cluster e count) serves) in
      subst
      (λ (s : TokensState). is_held (held_of s.blocks b).mode ≡ true → (held_of s.blocks b).value ≡ Some value
      → IsNewest (history_at w b) (held_of s.blocks b).ver value)
      there.tokens (λ h v. newest b c t value there h v) held has
