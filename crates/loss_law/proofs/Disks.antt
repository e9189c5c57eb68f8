-- Of a filed segment that is torn disks were lost, since logs stay whole, and of one that an opening reads, since that is whole, too: who lacks its fragment is
-- of a later generation. A fragment goes only with its disk.
use Rattle.std.proofs.Common.{◌≡◌, ℕ, ◌<◌, ◌⊎◌, Bool, true, nat_lt, is_none, is_some, Option, Some, None, length, inl, inr, arith, sym, subst}
use Rattle.std.specs.List.{count_by}
use Rattle.std.specs.Prelude.{slice_index_or}
use Rattle.std.proofs.lemmas.Bool.{lt-ltb}
use Rattle.xfs_base.specs.declared.fragment.Fragment.{Fragment}
use Rattle.xfs_base.specs.declared.segment.SegRef.{SegRef}
use Rattle.xfs_base.proofs.Booleans.{contrary}
use Rattle.segment_format.specs.declared.segment.Segment.{Segment}
use Rattle.group_map.specs.declared.group.Member.{Member}
use Rattle.fragment_store.specs.ShelfState.{held_at}
use Rattle.log_flight.specs.Flights.{no_member}
use Rattle.log_protocol.specs.Tables.{In}
use Rattle.log_tie.specs.Setting.{Setting, fragment_of}
use Rattle.log_tie.specs.Seen.{members_of}
use Rattle.log_law.specs.Net.{Net, opening}
use Rattle.log_law.specs.Events.{Runs}
use Rattle.log_law.specs.Events.Runs.{Begun, On}
use Rattle.log_law.specs.BeingRead.{IsWhole, WhatIsReadIsWhole}
use Rattle.log_law.specs.Laws.{Moment, Holds, IsLater, LogsStayWhole}
use Rattle.loss_law.specs.Losses.{Once, is_opening, IsTorn, IsLost, disks_lost, ATornSegmentLostDisks, FragmentsGoWithDisks}
use Rattle.segment_format.specs.References.{ref_of}
use Rattle.loss_law.proofs.Counting.{counted_places}
use Rattle.loss_law.proofs.Events.{first_base}
use Rattle.loss_law.proofs.Interval.{HeldOn, passed}
use Rattle.loss_law.proofs.Kept.{IsReading}

lacks_none : (o : Option Fragment) (f : Fragment) → o ≡ Some f → is_none o ≡ true → ⊥
lacks_none None f e none = absurd cc
lacks_none (Some h) f e none = contrary none

module _ (g : Setting) (n : Net) (s : Segment)
    (each : (place : ℕ) → place < length (members_of g s) → Holds g n s place ⊎ IsLater g n s place) (torn : IsTorn g (ref_of s) n) where
  abbrev lack : Member → Bool
  lack m = is_none (held_at (n.shelves m.server).held s.name)

  abbrev later : Member → Bool
  later m = nat_lt m.generation (n.shelves m.server).generation

  abbrev at : ℕ → Member
  at place = slice_index_or (members_of g s) place no_member

  each_later : (place : ℕ) → place < length (members_of g s) → lack (at place) ≡ true → later (at place) ≡ true
  each_later place within lacks = by (each place within)
    where
      by : Holds g n s place ⊎ IsLater g n s place → later (at place) ≡ true
      by (inl holds) = absurd (lacks_none (held_at (n.shelves (at place).server).held s.name) (fragment_of g s place) holds lacks)
      by (inr less) = lt-ltb (at place).generation (n.shelves (at place).server).generation less

  lost_disks : (g.stripe s.group).parity < count_by later (members_of g s)
  lost_disks = let a = counted_places lack later (members_of g s) each_later in let b = torn.torn in omega arith

pub a_torn_segment_lost_disks : LogsStayWhole → ATornSegmentLostDisks
a_torn_segment_lost_disks whole g n moment s fact filed torn = lost_disks g n s ((whole g n moment).whole s fact filed torn.kept) torn

-- ---- what is read

-- where an opening reads a segment of which no Delete was sent, that is whole
pub read_whole : WhatIsReadIsWhole → (g : Setting) (n : Net) → Moment g n → (segment : SegRef) → IsReading segment n → (In segment.name n.dropped → ⊥)
    → IsWhole g n segment
read_whole whole g n moment segment (s, opens, (b, r, at, its)) kept =
    subst (IsWhole g n) its (whole g n moment s opens b r at (subst (λ (z : SegRef). In z.name n.dropped → ⊥) (sym its) kept))

-- what was read once, and torn, was lost then
module _ (whole : WhatIsReadIsWhole) (g : Setting) (segment : SegRef) where
  lost_then : (p : Net) → Moment g p → IsReading segment p × IsTorn g segment p → IsLost g segment p
  lost_then p moment (reads, torn) = by (read_whole whole g p moment segment reads torn.kept)
    where
      by : IsWhole g p segment → IsLost g segment p
      by w =
          let fact : ref_of w.text ≡ segment = λ i. record { name = w.named i; group = w.grouped i } in
          record {
            torn = torn;
            whole = w;
            disks = subst (λ (z : SegRef). (g.stripe z.group).parity < disks_lost g p z) fact
                (lost_disks g p w.text w.whole (subst (λ z. IsTorn g z p) (sym fact) torn));
          }

  pub once_lost : (start n : Net) (run : Runs g start n) → ((p : Net) → Runs g start p → Moment g p)
      → Once is_opening (λ p. IsReading segment p × IsTorn g segment p) run → Once is_opening (IsLost g segment) run
  once_lost start n Begun to once = (once.0, lost_then start (to start Begun) once.1)
  once_lost start n (On {m = m} run e) to once = (once.0, by (once_lost start m run to) once.1)
    where
      by : (Once is_opening (λ p. IsReading segment p × IsTorn g segment p) run → Once is_opening (IsLost g segment) run)
          → (IsReading segment n × IsTorn g segment n) ⊎ Once is_opening (λ p. IsReading segment p × IsTorn g segment p) run
          → IsLost g segment n ⊎ Once is_opening (IsLost g segment) run
      by before (inl now) = inl (lost_then n (to n (On run e)) now)
      by before (inr old) = inr (before old)

-- what was held and isn't went with its disk
pub fragments_go_with_disks : FragmentsGoWithDisks
fragments_go_with_disks g n o moment later v name own held gone kept =
    by ((passed g n o (passed g (opening g moment.map) n (first_base g moment.map) moment.run).base later).holds v name own held)
  where
    unheld : (found : Option Fragment) → found ≡ None → is_some found ≡ true → ⊥
    unheld None e fact = contrary fact
    unheld (Some f) e fact = absurd cc

    by : HeldOn n o v name → (n.shelves v).generation < (o.shelves v).generation
    by (inl fact) = absurd (unheld (held_at (o.shelves v).held name) gone fact)
    by (inr (inl less)) = less
    by (inr (inr fact)) = absurd (kept fact)
