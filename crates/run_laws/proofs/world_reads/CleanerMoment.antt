-- The cleaner at a moment of a run, and at the one after an event of it that it takes: it is seen in the small worlds of its log, of tokens and of the index.
use Rattle.std.proofs.Common.{◌≡◌, ℕ, suc, ◌++◌, Some, refl, sym, ap, subst, ◌∙◌}
use Rattle.cleaner_node.specs.CleanerEvents.{cleaner_step, takes}
use Rattle.cleaner_node.specs.declared.cleaner.Cleaner.{Cleaner as CleanerNode}
use Rattle.node_logs.specs.client_log_tie.Owner.{Scene}
use Rattle.core_world.specs.declared.any_node.AnyNode.TheVariants as any
use Rattle.log_law.specs.Laws.{Moment}
use Rattle.log_law.specs.Restarts.{IsSureRun}
use Rattle.log_tie.specs.Setting.{Setting}
use Rattle.node_base.specs.Effects.{acts_of}
use Rattle.node_slots.specs.node_tie.CleanerLogs.{its_log}
use Rattle.node_slots.specs.owner_index_tie.CleanerEvents.{CleanerAgrees}
use Rattle.run_laws.specs.segment_tie.Cleaners.{CleanerWrites}
use Rattle.wire_msg.specs.declared.packet.Do.{Do}
use Rattle.world_base.specs.Cluster.{place_of}
use Rattle.run_laws.specs.world_index.Asking.{CleanerAsks}
use Rattle.run_laws.specs.world_index.Standing.{WasAsked}
use Rattle.headline.specs.Moments.{moment, node_in}
use Rattle.run_laws.specs.world_lines.Lines.{IsSure}
use Rattle.headline.specs.Logs.{did}
use Rattle.run_laws.specs.world_logs.Lines.{Line, cluster, setting}
use Rattle.headline.specs.Logs.Role.{OfCleaner}
use Rattle.run_laws.specs.world_logs.Standing.{CleanerOwns}
use Rattle.run_laws.proofs.world_reads.Stepping.{sure_before}
use Rattle.run_laws.specs.world_reads.Joint.{Joint}
use Rattle.run_laws.proofs.world_reads.Joint.{IsSureUpto}
use Rattle.run_laws.specs.world_reads.LoggedRuns.{LoggedRun}
use Rattle.xfs_base.specs.declared.node.NodeId.TheVariants.{Cleaner}

pub same_cleaner : (a b : CleanerNode) → Some (any.Cleaner a) ≡ Some (any.Cleaner b) → a ≡ b
same_cleaner a b fact = cc

module _ (logged : LoggedRun) (part : ℕ) where
  open logged use {base, estate as e, lines, texts}

  abbrev pub its_line : Line base e OfCleaner
  its_line = lines OfCleaner tt

  abbrev pub its_setting : Setting
  its_setting = setting base e OfCleaner

  abbrev pub its_scene : ℕ → Scene
  its_scene count = its_line.scene count

  abbrev pub its_moment : (count : ℕ) → Moment its_setting (its_scene count).net
  its_moment count = (its_line.stands count).moment

  -- it stands at its place
  abbrev pub IsHere : ℕ → CleanerNode → Type 0
  IsHere count node = node_in (moment e count).nodes (place_of (cluster base e) Cleaner) ≡ Some (any.Cleaner node)

  pub owns : (count : ℕ) (node : CleanerNode) → IsHere count node → CleanerOwns its_setting (its_scene count) node.phase
  owns count node here = (its_line.stands count).seen Cleaner (any.Cleaner node) here

  -- It takes what happens to it at this count: it stands there then as its step made it, and all that it acts is done.
  pub record Steps (count : ℕ) (node : CleanerNode) (what : Do) : Type 0 where
    pub before : IsHere count node
    pub after : IsHere (suc count) (cleaner_step node what).node
    pub did : did e its_log (suc count) ≡ did e its_log count ++ acts_of Cleaner (takes node.peers node.phase what).outs

  pub sure_at : (count : ℕ) → IsSureUpto logged part count → IsSure texts.text 9 its_setting (its_scene count).net
  sure_at count sure = record {
    own = refl;
    trusted = refl;
    moment = its_moment count;
    sure = sure OfCleaner tt refl;
    are_texts = texts.flown OfCleaner tt count;
  }

  -- what is sure after an event was sure before it
  pub upto_before : (count : ℕ) → IsSureUpto logged part (suc count) → IsSureUpto logged part count
  upto_before count sure r there keeps =
      sure_before ((lines r there).stands count).moment.run ((lines r there).goes count)
      (subst (λ (m : Moment (setting base e r) ((lines r there).scene (suc count)).net). IsSureRun m.run) ((lines r there).joined count) (sure r there keeps))

  -- ---- the small worlds of the slot

  module _ (count : ℕ) (joint : Joint logged part count) (node : CleanerNode) (here : IsHere count node) where
    pub in_index : joint.idx.cleaner ≡ node
    in_index = same_cleaner joint.idx.cleaner node (sym joint.index_stands.placed.cleaner ∙ here)

    pub in_tokens : joint.tok.cleaner ≡ node
    in_tokens = same_cleaner joint.tok.cleaner node (sym joint.tokens_stand.placed.cleaner ∙ here)

    pub agrees : CleanerAgrees part joint.idx.net texts.text node.phase
    agrees = subst (λ (x : CleanerNode). CleanerAgrees part joint.idx.net texts.text x.phase) in_index joint.index_stands.cleaner

    pub asks : CleanerAsks (WasAsked joint.idx.asked) node.phase
    asks = subst (λ (x : CleanerNode). CleanerAsks (WasAsked joint.idx.asked) x.phase) in_index joint.index_stands.asks

    pub writes_copies : CleanerWrites node.phase
    writes_copies = subst (λ (x : CleanerNode). CleanerWrites x.phase) in_tokens joint.cleaner_writes

    pub token_phase : joint.tok.cleaner.phase ≡ node.phase
    token_phase = ap (λ (x : CleanerNode). x.phase) in_tokens
