-- What was in flight has a text, and the fragments that were sent of it are bytes.
use Rattle.std.proofs.Common.{◌≡◌, ◌<◌, ℕ, zero, suc, ◌+◌, ◌-◌, ◌^◌, ◌==◌, List, [], ◌∷◌, length, Option, Some, None, sym, subst, refl, inl, inr, arith}
use Rattle.std.specs.Prelude.{IfSome, replicate}
use Rattle.std.specs.List.{AllByRecursion}
use Rattle.std.proofs.lemmas.List.Elements.{All-from_recursion, recursion_from_All}
use Rattle.xfs_base.proofs.Booleans.{by_test}
use Rattle.xfs_base.specs.declared.fragment.Fragment.{Fragment}
use Rattle.xfs_base.proofs.Alls.{all_append}
use Rattle.segment_format.specs.declared.segment.Segment.{Segment}
use Rattle.segment_format.specs.Text.{text_of}
use Rattle.group_map.specs.GroupMapState.{GroupMapState}
use Rattle.stripe_code.proofs.Pieces.{pieces_bytes}
use Rattle.stripe_code.specs.Fragments.{fragment_at}
use Rattle.stripe_code.specs.Stripe.{IsBytes, part_len, zeros, cut_pieces, plain, weighted, sum_onto, parities, stripe_of}
use Rattle.parity_kernel.specs.Bytewise.{xor_of}
use Rattle.log_flight.specs.Flights.{FlightState}
use Rattle.client_log.specs.Transition as log
use Rattle.log_scan.specs.ScanState.{ScanState}
use Rattle.log_scan.specs.Transition as scan
use Rattle.log_protocol.specs.Tables.{In}
use Rattle.log_tie.specs.Setting.{Setting, fragment_of}
use Rattle.log_law.specs.Net.{Net, Told, flown_with, chain_in, first_write, after_flight, after_told}
use Rattle.log_law.specs.Events.{IsWritten, WritesText, StartsWith, Happens, Runs}
use Rattle.log_law.specs.Events.Happens.{Acts, Writes, Opens}
use Rattle.log_law.specs.Events.Runs.{Begun, On}
use Rattle.log_law.specs.Laws.{OneText, OneNameOneText}
use Rattle.node_logs.specs.manager_log_tie.Told.{WhatIsToldIsInRange}
use Rattle.node_logs.proofs.cleaner_log_tie.Bytes.{Bytes, xor_bytes, times_bytes}

-- ---- what was in flight

abbrev AllWritten : List Segment → Type 0
AllWritten segments = (s : Segment) → In s segments → IsWritten s

with_flight : (f : Option FlightState) (before : List Segment) → IfSome f (λ (f : FlightState). IsWritten f.segment) → AllWritten before
    → AllWritten (flown_with f before)
with_flight None before new old s among = old s among
with_flight (Some f) before new old s (inl same) = subst IsWritten (sym same) new
with_flight (Some f) before new old s (inr among) = old s among

module _ (g : Setting) (n : Net) (old : AllWritten n.flown) where
  flight_written : (chain : List Segment) (d : log.Done) (f : Option FlightState) → IfSome f (λ (f : FlightState). IsWritten f.segment)
      → AllWritten (after_flight g n chain d f).flown
  flight_written chain d None new = old
  flight_written chain d (Some f) new = with_flight (Some f) n.flown new old

  told_written : (s : ScanState) (d : scan.Done) (t : Option Told) (groups : Option GroupMapState) → d.state.opening.groups ≡ groups
      → IfSome t (StartsWith g n.inc d)
      → AllWritten (after_told g n s d t groups).flown
  told_written s d None groups fact can = old
  told_written s d (Some t) None fact can = old
  told_written s d (Some t) (Some m) fact can =
      with_flight (first_write g n.inc t.end m).state.flight n.flown
      (subst (λ (o : Option GroupMapState). IfSome o (λ x. WritesText (first_write g n.inc t.end x))) fact can.1) old

stays_written : (g : Setting) (n o : Net) → Happens g n o → AllWritten n.flown → AllWritten o.flown
stays_written g n o (Acts s i fact came texts) old = with_flight (log.transition s i).state.flight n.flown texts old
stays_written g n o (Writes chain s i fact came texts) old = flight_written g n old chain (log.transition s i) (log.transition s i).state.flight texts
stays_written g n o (Opens s i fact came can) old =
    told_written g n old s (scan.transition s i) (chain_in (scan.transition s i).outs) (scan.transition s i).state.opening.groups refl can
stays_written g n o _ old = old

along : (g : Setting) (n o : Net) → Runs g n o → AllWritten n.flown → AllWritten o.flown
along g n o Begun old = old
along g n o (On {m = m} run happens) old = stays_written g m o happens (along g n m run old)

-- ---- its fragments

sum_bytes : (adds : ℕ → List ℕ → List ℕ) → ((place : ℕ) (f : List ℕ) → Bytes f → Bytes (adds place f)) → (place : ℕ) (start : List ℕ) (fs : List (List ℕ))
    → Bytes start
    → AllByRecursion Bytes fs → Bytes (sum_onto adds place start fs)
sum_bytes adds keeps place start [] first all = first
sum_bytes adds keeps place start (f ∷ fs) first all =
    sum_bytes adds keeps (place + 1) (xor_of start (adds place f)) fs (xor_bytes start (adds place f) first (keeps place f all.0)) all.1

zero_bytes : (count : ℕ) → Bytes (replicate count 0)
zero_bytes zero = tt
zero_bytes (suc count) = (omega arith, zero_bytes count)

parities_bytes : (parity part : ℕ) (fs : List (List ℕ)) → AllByRecursion Bytes fs → AllByRecursion Bytes (parities parity part fs)
parities_bytes parity part fs all =
    let first : Bytes (sum_onto plain 0 (zeros part) fs) = sum_bytes plain (λ place f b. b) 0 (zeros part) fs (zero_bytes part) all in
    by_test (AllByRecursion Bytes) (parity == 2) (sum_onto plain 0 (zeros part) fs ∷ sum_onto weighted 0 (zeros part) fs ∷ [])
    (sum_onto plain 0 (zeros part) fs ∷ [])
    (λ t. (first, (sum_bytes weighted (λ place f b. times_bytes (2 ^ place) f b) 0 (zeros part) fs (zero_bytes part) all, tt))) (λ t. (first, tt))

each_bytes : (fs : List (List ℕ)) → AllByRecursion IsBytes fs → AllByRecursion Bytes fs
each_bytes [] all = tt
each_bytes (f ∷ fs) all = (recursion_from_All (λ (byte : ℕ). byte < 256) f all.0, each_bytes fs all.1)

pub stripe_bytes : (text : List ℕ) (n parity : ℕ) → IsBytes text → AllByRecursion Bytes (stripe_of text n parity)
unfolding stripe_of
stripe_bytes text n parity bytes =
    let part : ℕ = part_len (length text) (n - parity) in
    let fs : List (List ℕ) = cut_pieces (n - parity) part text in
    let all : AllByRecursion Bytes fs = each_bytes fs (recursion_from_All IsBytes fs (pieces_bytes (n - parity) part text bytes)) in
    all_append Bytes fs (parities parity part fs) all (parities_bytes parity part fs all)

at_bytes : (fs : List (List ℕ)) (place : ℕ) → AllByRecursion Bytes fs → Bytes (fragment_at fs place)
at_bytes [] place all = tt
at_bytes (f ∷ fs) zero all = all.0
at_bytes (f ∷ fs) (suc place) all = at_bytes fs place all.1

fragment_bytes : (g : Setting) (s : Segment) (place : ℕ) → IsWritten s → IsBytes (fragment_of g s place).bytes
fragment_bytes g s place h =
    let count : ℕ = length (g.stripe s.group).members in
    let parity : ℕ = (g.stripe s.group).parity in
    All-from_recursion (λ (byte : ℕ). byte < 256) (fragment_at (stripe_of (text_of s) count parity) place)
    (at_bytes (stripe_of (text_of s) count parity) place (stripe_bytes (text_of s) count parity h.bytes))

pub told_in_range : OneNameOneText → WhatIsToldIsInRange
told_in_range law g n m = record {
  written = written;
  stored = λ v generation f among.
      (let p = one.stored v generation f among in subst (λ (x : Fragment). IsBytes x.bytes) (sym p.2) (fragment_bytes g p.0 f.meta.index (written p.0 p.1)));
  told = λ f among. (let p = one.told f among in subst (λ (x : Fragment). IsBytes x.bytes) (sym p.2) (fragment_bytes g p.0 f.meta.index (written p.0 p.1)));
}
  where
    one : OneText g n
    one = law g n m

    written : AllWritten n.flown
    written = along g _ n m.run (λ s among. absurd among)
