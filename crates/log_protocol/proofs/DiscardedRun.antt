-- A run, as a term: a tail reaches one of its two members, the owner falls, and its reopening discards the tail and writes in its place; then a
-- manager's restart.
-- Two servers. Names 1 and 2 are the segments of seq 1 (on server 0) and 2 (on both), name 3 the opening segment of the second boot, of seq 2 too.
use Rattle.std.proofs.Common.{◌≡◌, ℕ, zero, suc, ◌-◌, ◌<◌, ◌≤◌, ◌==◌, if◌then◌else◌, inl, inr, refl, arith}
use Rattle.std.specs.Prelude.{nat_lt}
use Rattle.std.proofs.lemmas.Bool.Decides.{nat_tests}
use Rattle.log_protocol.specs.Tables.{In}
use Rattle.log_protocol.specs.Packets.{FencedPacket}
use Rattle.log_protocol.specs.State.{State, Names, new_log}
use Rattle.log_protocol.specs.ServerSteps.{sends, accepts, fences}
use Rattle.log_protocol.specs.OwnerSteps.{Group, seals, notes, crashes, restarts}
use Rattle.log_protocol.specs.OpeningSteps.{begins, Gathered, Picked, picks_prior, opens, ReadBack, serves}
use Rattle.log_protocol.specs.Step.{Steps}
use Rattle.log_protocol.specs.Step.Step.{Sends, Accepts, Fences, Seals, Notes, Crashes, Restarts, Begins, Picks_prior, Opens, Serves}
use Rattle.log_protocol.specs.Step.Steps.{More}
use Rattle.log_protocol.specs.StepKinds.{kinds}
use Rattle.log_protocol.specs.LogRuns.{discarded_steps, TailDiscarded}
use Rattle.log_protocol.proofs.FirstFiled.{on_first, one_filed, files_one}
use Rattle.log_protocol.proofs.RunParts.{first_server, store_to_first, stored_by_first, settled_alone, le11, le12, le22, lt01, lt02, lt03, lt12}

abbrev seqs : ℕ → ℕ
seqs x = if nat_lt x 3 then x else x - 1

abbrev boots : ℕ → ℕ
boots x = if x == 3 then 2 else 1

names : Names seqs boots (λ x. 1)
names = record { apart = λ x y s c a. grind (arith, nat_tests); none = refl }

small_boots : (y : ℕ) → y ≤ 2 → boots y ≤ 1
small_boots y less = grind (arith, nat_tests)

small_seqs : (y : ℕ) → y ≤ 2 → seqs y ≤ 2
small_seqs y less = grind (arith, nat_tests)

-- the first boot files name 1 and seals name 2, of which one Store comes through
abbrev w0 : State
w0 = new_log 2 seqs boots (λ x. 1)

abbrev w5 : State
w5 = one_filed 2 seqs boots (λ x. 1)

s5 : Steps w0 w5
s5 = files_one 2 seqs boots (λ x. 1) lt02 refl refl

both : Group w5 2 (λ j. j)
both = record { some = lt02; known = λ j k. k; distinct = λ i j a b c. c }

abbrev w6 : State
w6 = seals w5 2 8 2 (λ j. j) 6

s6 : Steps w0 w6
s6 = More s5 (Seals 2 8 2 (λ j. j) 6 (record { serving = refl; no_flight = refl; named = lt02; next = refl; own = refl; group = both }))

abbrev w7 : State
w7 = sends w6 2 0

s7 : Steps w0 w7
s7 = More s6 (Sends 2 0 (record { booked = refl; member = lt02 }))

abbrev w8 : State
w8 = accepts w7 (store_to_first 2 8)

s8 : Steps w0 w8
s8 = More s7 (Accepts (store_to_first 2 8) (record { sent = inl refl; present = refl; unmarked = refl; absent = refl }))

abbrev w9 : State
w9 = crashes w8

s9 : Steps w0 w9
s9 = More s8 Crashes

-- the second boot has a list of each server; server 1 lacks name 2, so name 2 is discarded
abbrev w10 : State
w10 = begins w9

s10 : Steps w0 w10
s10 = More s9 (Begins (record { down = refl }))

abbrev list_of : ℕ → FencedPacket
list_of v = record { from = v; incarnation = 2; generation = 1; low = 1; listed = w10.holds v }

-- what the two servers held then
listed_small : (v y : ℕ) → w10.holds v y ≡ 1 → y ≤ 2
listed_small v y e = grind (arith, nat_tests)

abbrev w11 : State
w11 = fences w10 0 2

s11 : Steps w0 w11
s11 = More s10 (Fences 0 2 (record { begun = le22 }))

abbrev w12 : State
w12 = fences w11 1 2

s12 : Steps w0 w12
s12 = More s11 (Fences 1 2 (record { begun = le22 }))

gathered : Gathered w12 list_of 1
gathered = record { sent = λ v k. sent v k; from = λ v k. refl; boot = λ v k. refl; no_older = λ v k. le11; begun = le11; known = le11 }
  where
    sent : (v : ℕ) → v < 2 → In (list_of v) w12.fenceds
    sent zero k = inr (inl refl)
    sent (suc zero) k = inl refl
    sent (suc (suc v)) k = absurd (omega arith)

picked : Picked w12 list_of 1 2
picked = record {
  listed = (0, lt02, refl);
  above = le12;
  newest_boot = λ v y k e above. small_boots y (listed_small v y e);
  longest = λ v y k e above same. small_seqs y (listed_small v y e);
  last_attempt = λ v y k e above same same_seq. le11;
}

abbrev w13 : State
w13 = picks_prior w12 1 2

s13 : Steps w0 w13
s13 = More s12 (Picks_prior list_of 1 2 1 (record { gathering = refl; gathered = gathered; picked = picked; member = lt12; lacks = refl; original = refl }))

-- name 3 takes its place
abbrev w14 : State
w14 = opens w13 3 9 1 first_server

s14 : Steps w0 w14
s14 = More s13
    (Opens 3 9 1 first_server
    (record {
      reading = refl;
      named = lt03;
      next = refl;
      own = refl;
      group = on_first w13 lt02;
    }))

abbrev w15 : State
w15 = sends w14 3 0

s15 : Steps w0 w15
s15 = More s14 (Sends 3 0 (record { booked = refl; member = lt01 }))

abbrev w16 : State
w16 = accepts w15 (store_to_first 3 9)

s16 : Steps w0 w16
s16 = More s15 (Accepts (store_to_first 3 9) (record { sent = inl refl; present = refl; unmarked = refl; absent = refl }))

abbrev w17 : State
w17 = notes w16 (stored_by_first 3)

s17 : Steps w0 w17
s17 = More s16 (Notes (stored_by_first 3) (record { sent = inl refl; flying = lt03; named = refl }))

read : ReadBack w17 (λ q. 1) 1
read = record { picked = le11; cut = le11; last = λ q a e. refl; back = λ q a less. absurd (below q a less) }
  where
    below : (q : ℕ) → 1 ≤ q → suc q < 2 → ⊥
    below q a less = omega arith

abbrev w18 : State
w18 = serves w17 (λ q. 1) 1 1

s18 : Steps w0 w18
s18 = More s17 (Serves (λ q. 1) 1 1 (record { writing = refl; settled = settled_alone w17 refl refl; undoubted = λ e p a b. (0, lt01, refl); read = read }))

abbrev w19 : State
w19 = crashes w18

s19 : Steps w0 w19
s19 = More s18 Crashes

abbrev w20 : State
w20 = restarts w19

s20 : Steps w0 w20
s20 = More s19 (Restarts (record { down = refl }))

steps : kinds s20 ≡ discarded_steps
unfolding files_one s5 s6 s7 s8 s9 s10 s11 s12 s13 s14 s15 s16 s17 s18 s19 s20
steps = refl

pub tail_discarded : TailDiscarded
tail_discarded = record {
  served = w18;
  reached = record { names = names; run = s18 };
  clean = refl;
  serving = refl;
  head = refl;
  tail = 2;
  instead = 3;
  same_seq = refl;
  held = refl;
  one_filed = (refl, refl);
  restarted = w20;
  later = record { names = names; run = s20 };
  steps = steps;
  again = (refl, refl);
}
