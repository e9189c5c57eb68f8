-- A client that serves and is polled by a manager: where the log is linked from the horizon of the epoch on, the end that it reports is known.
use Rattle.std.proofs.Common.{◌≡◌, ◌<◌, ◌≤◌, ℕ, true, [], ◌∷◌, nat_lt, nat_le, ◌&&◌, subst, arith}
use Rattle.std.proofs.lemmas.Bool.Decides.{nat_tests}
use Rattle.client_serving.specs.declared.serving.Serving.{Serving}
use Rattle.client_serving.specs.Follow.{serving_follow}
use Rattle.client_serving.specs.Packets.{serving_promise, reports, may_report, polled, on_poll}
use Rattle.client_serving.specs.Sends.{Done, report}
use Rattle.headline.specs.Filed.{Filed}
use Rattle.index_tie.specs.Net.{Net}
use Rattle.index_tie.specs.Takeovers.{Linked}
use Rattle.headline.specs.Indexes.{of_log}
use Rattle.token_client.specs.declared.output.Out as outputs
use Rattle.token_client.specs.State.{epoch_of}
use Rattle.wire_msg.specs.declared.deltas.Poll.{Poll}
use Rattle.xfs_base.proofs.Booleans.{by_test}
use Rattle.xfs_base.specs.declared.node.NodeId.{NodeId}
use Rattle.xfs_base.specs.declared.node.NodeId.TheVariants as node
use Rattle.xfs_base.specs.Steps.{Stepped, still}
use Rattle.xfs_base.specs.Limits.{slot_count, block_logs}
use Rattle.node_slots.proofs.owner_index_tie.Frames as frames
use Rattle.node_slots.proofs.owner_index_tie.ServingWalk as serving
use Rattle.node_moves.proofs.client_walk.Laws.{Walk, all_tell}
use Rattle.node_moves.proofs.client_walk.Packets as hearing
use Rattle.node_moves.proofs.client_walk.Tokens as tokens
use Rattle.node_slots.proofs.owner_index_tie.Standing.{end_told, end_known}

-- from the horizon of an epoch on the log is linked
abbrev pub LinkedFrom : Net → ℕ → Filed → ℕ → Type 0
LinkedFrom n l f epoch = 0 < of_log (n.horizon epoch) l → Linked f l (of_log (n.horizon epoch) l) (f.head l)

-- from the horizon of an epoch on that is polled, and that is none before the one that the tokens are of
abbrev pub PollLinked : ℕ → Net → ℕ → Filed → Serving → Poll → Type 0
PollLinked part n l f s p = p.slot ≡ part → epoch_of s.tokens.epochs part ≤ p.epoch → LinkedFrom n l f p.epoch

module _ (part : ℕ) (n : Net) (l since : ℕ) (some : 0 < l) (limit : l ≤ block_logs) (f : Filed) where
  abbrev At : Serving → Type 0
  At s = serving.At part n l since some limit f s

  abbrev Goes : Done → Type 0
  Goes d = serving.Goes part n l since some limit f d

  abbrev its_walk : Walk
  its_walk = serving.walk part n l since some limit f

  still_so : (s : Serving) → At s → Goes (still s)
  still_so s h = frames.quiet_still part n l since f At s h

  reports_so : (slot epoch : ℕ) (p : Stepped Serving outputs.Out) → At p.state → (slot ≡ part → LinkedFrom n l f epoch) → Goes (reports slot epoch p)
  reports_so slot epoch p h linked =
      frames.quiet_after part n l since f At (report p.state slot epoch ∷ []) (serving_follow p.state p.outs) (
        (
          λ inside. end_known part n l since f p.state.lasting.number p.state.log p.state.feed h epoch (linked inside),
          end_told part n l since f p.state.lasting.number p.state.log p.state.feed h,
        ),
        tt,
      )
      (serving.quiet part n l since some limit f (serving_follow p.state p.outs)
      (tokens.serving_follow_so its_walk p.state p.outs (all_tell (λ target. Unit {0}) (λ target. tt) p.outs) h))

  not_past : (s : Serving) (p : Poll) → may_report s p ≡ true → p.slot ≡ part → epoch_of s.tokens.epochs part ≤ p.epoch
  not_past s p fact same = subst (λ k. epoch_of s.tokens.epochs k ≤ p.epoch) same (no_later p.slot (epoch_of s.tokens.epochs p.slot) p.epoch fact)
    where
      no_later : (slot a b : ℕ) → nat_lt slot slot_count && nat_le a b ≡ true → a ≤ b
      no_later slot a b fact = grind (arith, nat_tests)

  polled_so : (s : Serving) (manager : ℕ) (p : Poll) → At s → PollLinked part n l f s p → Goes (polled s manager p)
  unfolding polled
  polled_so s manager p h linked =
      by_test (λ (d : Done). Goes d) (may_report s p) (reports p.slot p.epoch (serving_promise s p.slot p.epoch manager)) (still s)
      (λ t. reports_so p.slot p.epoch (serving_promise s p.slot p.epoch manager) (hearing.serving_promise_so its_walk s p.slot p.epoch manager h) (λ same. linked same (not_past s p t same)))
      (λ t. still_so s h)

  pub on_poll_so : (s : Serving) (from : NodeId) (p : Poll) → At s → PollLinked part n l f s p → Goes (on_poll s from p)
  on_poll_so s (node.Manager manager) p h linked = polled_so s manager p h linked
  on_poll_so s _ p h linked = still_so s h
