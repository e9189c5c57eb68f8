-- A run, as a term: a tail is restriped, the owner falls, a reopening adopts the tail and serves; then a segment is dropped, and a server is lost and
-- fills its shelf again.
-- One server. Names 1 and 2 are the segments of seq 1 and 2, name 3 is the second attempt of seq 2, name 4 the opening segment of the second boot.
use Rattle.std.proofs.Common.{◌≡◌, ℕ, suc, ◌-◌, ◌<◌, ◌≤◌, ◌==◌, if◌then◌else◌, ◌⊎◌, inl, inr, refl, sym, subst, arith}
use Rattle.std.specs.Prelude.{nat_lt}
use Rattle.std.proofs.lemmas.Bool.Decides.{nat_tests}
use Rattle.log_protocol.specs.Packets.{FragmentPacket, FencedPacket}
use Rattle.log_protocol.specs.State.{State, Names, new_log}
use Rattle.log_protocol.specs.ServerSteps.{loses, hears, learns, sends, accepts, accepts_again, tells, fills, drops, deletes, raises, fences}
use Rattle.log_protocol.specs.OwnerSteps.{seals, restripes, notes, crashes}
use Rattle.log_protocol.specs.OpeningSteps.{begins, Gathered, Picked, picks_kept, cuts, opens, ReadBack, serves}
use Rattle.log_protocol.specs.Step.{Steps}
use Rattle.log_protocol.specs.Step.Step.{Loses, Hears, Learns, Sends, Accepts, Accepts_again, Tells, Fills, Drops, Deletes, Raises, Fences, Seals, Restripes, Notes, Crashes, Begins, Picks_kept, Cuts, Opens, Serves}
use Rattle.log_protocol.specs.Step.Steps.{More}
use Rattle.log_protocol.specs.StepKinds.{kinds}
use Rattle.log_protocol.specs.LogRuns.{adopted_steps, TailAdopted}
use Rattle.log_protocol.proofs.FirstFiled.{one_filed, files_one}
use Rattle.log_protocol.proofs.RunParts.{first_server, one_server, at_zero, store_to_first, stored_by_first, settled_alone, second_attempt, first_dropped, le11, le12, le22, lt01, lt02, lt03, lt04}

abbrev seqs : ℕ → ℕ
seqs x = if nat_lt x 3 then x else x - 1

abbrev boots : ℕ → ℕ
boots x = if x == 4 then 2 else 1

abbrev attempts : ℕ → ℕ
attempts x = if x == 3 then 2 else 1

names : Names seqs boots attempts
names = record { apart = λ x y s c a. grind (arith, nat_tests); none = refl }

abbrev path : ℕ → ℕ
path q = if q == 1 then 1 else 3

abbrev told : FragmentPacket
told = record { name = 3; text = 9 }

-- the first boot files name 1
abbrev w0 : State
w0 = new_log 1 seqs boots attempts

abbrev w5 : State
w5 = one_filed 1 seqs boots attempts

s5 : Steps w0 w5
s5 = files_one 1 seqs boots attempts lt01 refl refl

-- it seals name 2, writes it again as name 3, which is stored, and falls
abbrev w6 : State
w6 = seals w5 2 8 1 first_server 6

s6 : Steps w0 w6
s6 = More s5 (Seals 2 8 1 first_server 6 (record { serving = refl; no_flight = refl; named = lt02; next = refl; own = refl; group = one_server w5 refl }))

abbrev w7 : State
w7 = restripes w6 3 9 1 first_server

s7 : Steps w0 w7
s7 = More s6 (Restripes 3 9 1 first_server (second_attempt w6 3 refl lt02 lt03 refl refl refl refl))

abbrev w8 : State
w8 = sends w7 3 0

s8 : Steps w0 w8
s8 = More s7 (Sends 3 0 (record { booked = refl; member = lt01 }))

abbrev w9 : State
w9 = accepts w8 (store_to_first 3 9)

s9 : Steps w0 w9
s9 = More s8 (Accepts (store_to_first 3 9) (record { sent = inl refl; present = refl; unmarked = refl; absent = refl }))

abbrev w10 : State
w10 = accepts_again w9 (store_to_first 3 9)

s10 : Steps w0 w10
s10 = More s9 (Accepts_again (store_to_first 3 9) (record { sent = inl refl; held = refl }))

abbrev w11 : State
w11 = crashes w10

s11 : Steps w0 w11
s11 = More s10 Crashes

-- the second boot gathers, picks name 3 and keeps it
abbrev w12 : State
w12 = begins w11

s12 : Steps w0 w12
s12 = More s11 (Begins (record { down = refl }))

abbrev list_of : ℕ → FencedPacket
list_of v = record { from = 0; incarnation = 2; generation = 1; low = 1; listed = w12.holds 0 }

-- what the server held then
listed_names : (y : ℕ) → w12.holds 0 y ≡ 1 → (y ≡ 1) ⊎ (y ≡ 3)
listed_names y e = grind (arith, nat_tests)

abbrev w13 : State
w13 = fences w12 0 2

s13 : Steps w0 w13
s13 = More s12 (Fences 0 2 (record { begun = le22 }))

gathered : Gathered w13 list_of 1
gathered = record {
  sent = λ v k. inl refl;
  from = λ v k. at_zero (λ z. 0 ≡ z) v k refl;
  boot = λ v k. refl;
  no_older = λ v k. le11;
  begun = le11;
  known = le11;
}

picked : Picked w13 list_of 1 3
picked = record {
  listed = (0, lt01, refl);
  above = (omega arith);
  newest_boot = λ v y k e above. ⊎_cases y (λ z. boots z ≤ 1) (listed_names y e) le11 le11;
  longest = λ v y k e above same. ⊎_cases y (λ z. seqs z ≤ 2) (listed_names y e) le12 le22;
  last_attempt = λ v y k e above same same_seq. ⊎_cases y (λ z. attempts z ≤ 2) (listed_names y e) le12 le22;
}
  where
    ⊎_cases : (y : ℕ) (P : ℕ → Type 0) → (y ≡ 1) ⊎ (y ≡ 3) → P 1 → P 3 → P y
    ⊎_cases y P (inl e) a b = subst P (sym e) a
    ⊎_cases y P (inr e) a b = subst P (sym e) b

abbrev w14 : State
w14 = picks_kept w13 1 3

s14 : Steps w0 w14
s14 = More s13 (Picks_kept list_of 1 3 (record { gathering = refl; gathered = gathered; picked = picked; whole = λ j k. inl refl }))

-- the least horizon rises while it reads back, which ends there; name 1, which was read before, stays read
abbrev w15 : State
w15 = raises w14 2

s15 : Steps w0 w15
s15 = More s14 (Raises 2 (record { rises = le12; filed = λ e. le22 }))

abbrev w16 : State
w16 = cuts w15 2

s16 : Steps w0 w16
s16 = More s15 (Cuts 2 (record { rises = le12; known = le22 }))

-- its opening segment, name 4, is stored, and it serves
abbrev w17 : State
w17 = opens w16 4 10 1 first_server

s17 : Steps w0 w17
s17 = More s16 (Opens 4 10 1 first_server (record { reading = refl; named = lt04; next = refl; own = refl; group = one_server w16 refl }))

abbrev w18 : State
w18 = sends w17 4 0

s18 : Steps w0 w18
s18 = More s17 (Sends 4 0 (record { booked = refl; member = lt01 }))

abbrev w19 : State
w19 = accepts w18 (store_to_first 4 10)

s19 : Steps w0 w19
s19 = More s18 (Accepts (store_to_first 4 10) (record { sent = inl refl; present = refl; unmarked = refl; absent = refl }))

abbrev w20 : State
w20 = notes w19 (stored_by_first 4)

s20 : Steps w0 w20
s20 = More s19 (Notes (stored_by_first 4) (record { sent = inl refl; flying = lt04; named = refl }))

read : ReadBack w20 path 1
read = record { picked = le11; cut = le12; last = λ q a e. last q e; back = λ q a less. back q a less }
  where
    last : (q : ℕ) → suc q ≡ 3 → path q ≡ 3
    last q e = grind (arith, nat_tests)

    one : (q : ℕ) → 1 ≤ q → suc q < 3 → q ≡ 1
    one q a less = omega arith

    back : (q : ℕ) → 1 ≤ q → suc q < 3 → path q ≡ w20.prior_of (path (suc q))
    back q a less = subst (λ z. path z ≡ w20.prior_of (path (suc z))) (sym (one q a less)) refl

abbrev w21 : State
w21 = serves w20 path 1 1

s21 : Steps w0 w21
s21 = More s20 (Serves path 1 1 (record { writing = refl; settled = settled_alone w20 refl refl; undoubted = λ e p a b. (0, lt01, refl); read = read }))

-- name 1 is dropped and deleted
abbrev w22 : State
w22 = drops w21 1

s22 : Steps w0 w22
s22 = More s21 (Drops 1 (first_dropped w21 1 refl refl refl))

abbrev w23 : State
w23 = deletes w22 0 1

s23 : Steps w0 w23
s23 = More s22 (Deletes 0 1 (record { dropped = refl }))

-- the server is lost and fills name 3 in again
abbrev w24 : State
w24 = tells w23 0 3

s24 : Steps w0 w24
s24 = More s23 (Tells 0 3 (record { held = refl }))

abbrev w25 : State
w25 = loses w24 0

s25 : Steps w0 w25
s25 = More s24 (Loses 0)

abbrev w26 : State
w26 = hears w25 0 2

s26 : Steps w0 w26
s26 = More s25 (Hears 0 2 (record { rises = le12; reached = le22 }))

same : (v : ℕ) → w26.registry_generation v ≤ w26.registry_generation v
same v = grind (arith)

up : (v : ℕ) → 1 ≤ w26.registry_generation v
up v = grind (arith, nat_tests)

abbrev w27 : State
w27 = learns w26 w26.registry_generation

s27 : Steps w0 w27
s27 = More s26 (Learns w26.registry_generation (record { known = λ v. same v }))

abbrev w28 : State
w28 = fills w27 0 0 told

s28 : Steps w0 w28
s28 = More s27 (Fills 0 0 told (record { sent = inl refl; member = lt01; own = refl; unmarked = refl; absent = refl }))

steps : kinds s28 ≡ adopted_steps
unfolding files_one s5 s6 s7 s8 s9 s10 s11 s12 s13 s14 s15 s16 s17 s18 s19 s20 s21 s22 s23 s24 s25 s26 s27 s28
steps = refl

pub tail_adopted : TailAdopted
tail_adopted = record {
  state = w28;
  reached = record { names = names; run = s28 };
  steps = steps;
  clean = refl;
  serving = refl;
  boot = refl;
  head = refl;
  first_attempt = 2;
  second_attempt = 3;
  same_seq = refl;
  both_booked = (refl, refl);
  one_filed = (refl, refl);
  dropped = refl;
  lost = refl;
  filled = refl;
}
