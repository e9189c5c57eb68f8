-- How a run begins: the first segment, name 1 on server 0 alone, is sealed, stored and noted, and settles.
use Rattle.std.proofs.Common.{◌≡◌, ℕ, suc, ◌<◌, inl, refl, arith}
use Rattle.log_protocol.specs.State.{State, new_log}
use Rattle.log_protocol.specs.ServerSteps.{sends, accepts}
use Rattle.log_protocol.specs.OwnerSteps.{Group, seals, notes, settles}
use Rattle.log_protocol.specs.Step.{Steps}
use Rattle.log_protocol.specs.Step.Step.{Sends, Accepts, Seals, Notes, Settles}
use Rattle.log_protocol.specs.Step.Steps.{Done, More}
use Rattle.log_protocol.proofs.RunParts.{first_server, store_to_first, stored_by_first, settled_alone, lt01}

-- server 0 alone, in any world of servers
pub on_first : (w : State) → 0 < w.servers → Group w 1 first_server
on_first w some = record { some = lt01; known = λ j k. some; distinct = λ i j a b c. omega arith }

module _ (servers : ℕ) (seqs boots attempts : ℕ → ℕ) where
  abbrev w0 : State
  w0 = new_log servers seqs boots attempts

  abbrev w1 : State
  w1 = seals w0 1 7 1 first_server 5

  abbrev w2 : State
  w2 = sends w1 1 0

  abbrev w3 : State
  w3 = accepts w2 (store_to_first 1 7)

  abbrev w4 : State
  w4 = notes w3 (stored_by_first 1)

  abbrev pub one_filed : State
  one_filed = settles w4

  unfoldable pub files_one : 0 < servers → seqs 1 ≡ suc (seqs 0) → boots 1 ≡ 1 → Steps w0 one_filed
  files_one some next own =
      let s1 : Steps w0 w1 =
      More Done (Seals 1 7 1 first_server 5 (record { serving = refl; no_flight = refl; named = lt01; next = next; own = own; group = on_first w0 some })) in
      let s2 : Steps w0 w2 = More s1 (Sends 1 0 (record { booked = refl; member = lt01 })) in
      let s3 : Steps w0 w3 = More s2 (Accepts (store_to_first 1 7) (record { sent = inl refl; present = refl; unmarked = refl; absent = refl })) in
      let s4 : Steps w0 w4 = More s3 (Notes (stored_by_first 1) (record { sent = inl refl; flying = lt01; named = refl })) in
      More s4 (Settles (record { serving = refl; flying = lt01; settled = settled_alone w4 refl refl }))
