-- The owner of a ballot has accepted the whole list of it, also when it has a later ballot by now. So what another board has of it, two boards have.
use Rattle.std.proofs.Common.{ℕ, ◌≡◌, ◌<◌, ◌≤◌, suc, List, length, refl, sym, ap, arith, le_trans, le_of_eq}
use Rattle.std.proofs.lemmas.Bool.Decides.{nat_tests}
use Rattle.board_protocol.specs.Packets.{Promised, Install, Append}
use Rattle.board_protocol.specs.World.{World, start}
use Rattle.board_protocol.specs.Laws.{Chosen}
use Rattle.board_protocol.specs.Leading.{MayExtend, MayLead, extends, leads_with}
use Rattle.board_protocol.specs.Following.{MayAcceptInstall, MayAcceptAppend, installs, appends}
use Rattle.board_protocol.specs.Step.{Step, Steps}
use Rattle.board_protocol.specs.Step.Step.{Extends, Ticks, LeadsWithOwn, LeadsWithTheirs, Installs, Appends}
use Rattle.board_protocol.specs.Step.Steps.{Done, More}
use Rattle.board_protocol.proofs.Prefixes.{no_longer}
use Rattle.board_protocol.proofs.Facts.{Standing, Sending}
use Rattle.board_protocol.proofs.Invariant.{always}

module _ {C : Type 0} where
  abbrev pub Owned : World C → Type 0
  Owned w = (b : ℕ) → w.led b ≡ 1 → w.accepted (w.owner b) b ≡ length (w.book b)

  extends_owned : (w : World C) (k : ℕ) (c : C) → MayExtend w k → Standing w → Owned w → Owned (extends w k c)
  extends_owned w k c h s o b l = grind (arith, nat_tests, o b l, (s.stands k).leading_own h.leads)

  leads_with_owned : (w : World C) (k : ℕ) (p : Promised C) (list : List C) → MayLead w k p → Owned w → Owned (leads_with w k p.ballot list)
  leads_with_owned w k p list h o b l = grind (arith, nat_tests, o b, l, h.own)

  installs_owned : (w : World C) (k : ℕ) (p : Install C) → MayAcceptInstall w k p → Standing w → Sending w → Owned w → Owned (installs w k p)
  installs_owned w k p h s t o b l = grind (arith, nat_tests, o b l, s.past p.ballot (t.installs p h.take.sent).led, h.above)

  appends_owned : (w : World C) (k : ℕ) (p : Append C) → MayAcceptAppend w k p → Standing w → Sending w → Owned w → Owned (appends w k p.command)
  appends_owned w k p h s t o b l =
      let x = w.board k in
      let shorter : suc (length x.list) ≤ length (w.book x.ballot) = grind (arith, h.take.ballot, h.next, (t.appends p h.take.sent).place) in
      let other : w.owner x.ballot ≡ k → ⊥ = (λ own. grind (arith, ap length ((s.stands k).own own), shorter)) in
      grind (arith, nat_tests, o b l, other)

  keeps : (w v : World C) → Step w v → Standing w → Sending w → Owned w → Owned v
  keeps w v (Extends k c h) s t o = extends_owned w k c h.extend s o
  keeps w v (Ticks k c h) s t o = extends_owned w k c h s o
  keeps w v (LeadsWithOwn k p h) s t o = leads_with_owned w k p (w.board k).list h.lead o
  keeps w v (LeadsWithTheirs k p h) s t o = leads_with_owned w k p p.list h.lead o
  keeps w v (Installs k p h) s t o = installs_owned w k p h s t o
  keeps w v (Appends k p h) s t o = appends_owned w k p h s t o
  keeps w v step s t o = o

  owned_after : (owner : ℕ → ℕ) (w v : World C) → Steps (start owner) w → Owned w → Steps w v → (Steps (start owner) v) × Owned v
  owned_after owner w v reached o Done = (reached, o)
  owned_after owner w v reached o (More {v = x} steps step) =
      let before = owned_after owner w x reached o steps in
      let i = always owner x before.0 in
      (More before.0 step, keeps x v step i.standing i.sending before.1)

  pub owned : (owner : ℕ → ℕ) (w : World C) → Steps (start owner) w → Owned w
  owned owner w steps = (owned_after owner (start owner) w Done (λ b l. refl) steps).1

  -- What a board has of a ballot that is another's is chosen.
  pub followed : (owner : ℕ → ℕ) (w : World C) → Steps (start owner) w → (k : ℕ) → k < 3
      → w.owner (w.board k).ballot < 3 → (k ≡ w.owner (w.board k).ballot → ⊥) → Chosen w (w.board k).list
  followed owner w steps k board other apart =
      let x = w.board k in
      let s = (always owner w steps).standing.stands k in
      record {
        ballot = x.ballot;
        one = k;
        other = w.owner x.ballot;
        one_board = board;
        other_board = other;
        apart = apart;
        one_accepted = le_of_eq (sym s.now);
        other_accepted = le_trans (no_longer x.list (w.book x.ballot) s.listed) (le_of_eq (sym (owned owner w steps x.ballot s.led)));
        listed = s.listed;
      }
