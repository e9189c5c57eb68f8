-- The whole invariant holds at every state of every run: one clause for each kind of step and each group of the line; the shelves go by themselves.
use Rattle.std.proofs.Common.{◌≡◌, ℕ, arith}
use Rattle.log_protocol.specs.State.{State, Names, new_log}
use Rattle.log_protocol.specs.OpeningSteps.{Undoubted}
use Rattle.log_protocol.specs.Step.{Step, Steps}
use Rattle.log_protocol.specs.Step.Step.{Loses, Hears, Learns, Sends, Accepts, Accepts_again, Tells, Fills, Drops, Deletes, Raises, Fences, Seals, Restripes, Notes, Settles, Crashes, Restarts, Begins, Picks_none, Picks_kept, Picks_prior, Cuts, Opens, Serves}
use Rattle.log_protocol.specs.Step.Steps.{Done, More}
use Rattle.log_protocol.specs.LogLaws.{Reached}
use Rattle.log_protocol.proofs.Invariant.{Invariant}
use Rattle.log_protocol.proofs.ShelfInvariant.{step_keeps_shelf, new_log_shelf}
use Rattle.log_protocol.proofs.Line.{Line, loses_keeps_line, hears_keeps_line, learns_keeps_line, sends_keeps_line, accepts_keeps_line, accepts_again_keeps_line, tells_keeps_line, fills_keeps_line, drops_keeps_line, deletes_keeps_line, raises_keeps_line, fences_keeps_line, seals_keeps_line, restripes_keeps_line, notes_keeps_line, settles_keeps_line, crashes_keeps_line, begins_keeps_line, picks_none_keeps_line, picks_kept_keeps_line, picks_prior_keeps_line, cuts_keeps_line, opens_keeps_line, new_log_line}
use Rattle.log_protocol.proofs.Spans.{Spans, loses_keeps_spans, hears_keeps_spans, learns_keeps_spans, sends_keeps_spans, accepts_keeps_spans, accepts_again_keeps_spans, tells_keeps_spans, fills_keeps_spans, drops_keeps_spans, deletes_keeps_spans, raises_keeps_spans, fences_keeps_spans, seals_keeps_spans, restripes_keeps_spans, notes_keeps_spans, settles_keeps_spans, crashes_keeps_spans, begins_keeps_spans, picks_none_keeps_spans, picks_kept_keeps_spans, picks_prior_keeps_spans, cuts_keeps_spans, opens_keeps_spans, new_log_spans}
use Rattle.log_protocol.proofs.Rising.{Rising, loses_keeps_rising, hears_keeps_rising, learns_keeps_rising, sends_keeps_rising, accepts_keeps_rising, accepts_again_keeps_rising, tells_keeps_rising, fills_keeps_rising, drops_keeps_rising, deletes_keeps_rising, raises_keeps_rising, fences_keeps_rising, seals_keeps_rising, restripes_keeps_rising, notes_keeps_rising, settles_keeps_rising, crashes_keeps_rising, begins_keeps_rising, picks_none_keeps_rising, picks_kept_keeps_rising, picks_prior_keeps_rising, cuts_keeps_rising, opens_keeps_rising, new_log_rising}
use Rattle.log_protocol.proofs.Serving.{served_clean, opening_after, serves_keeps_line, serves_keeps_spans, serves_keeps_rising}

step_keeps_line : (w u : State) → Step w u → Invariant w → u.clean ≡ 1 → Line u
step_keeps_line w u (Loses v) past clean = loses_keeps_line w v past.shelf (past.line clean)
step_keeps_line w u (Hears v g can) past clean = hears_keeps_line w v g can past.shelf (past.line clean)
step_keeps_line w u (Learns map can) past clean = learns_keeps_line w map can past.shelf (past.line clean)
step_keeps_line w u (Sends x i can) past clean = sends_keeps_line w x i can past.shelf (past.line clean)
step_keeps_line w u (Accepts p can) past clean = accepts_keeps_line w p can past.shelf (past.line clean)
step_keeps_line w u (Accepts_again p can) past clean = accepts_again_keeps_line w p can past.shelf (past.line clean)
step_keeps_line w u (Tells v x can) past clean = tells_keeps_line w v x can past.shelf (past.line clean)
step_keeps_line w u (Fills v i p can) past clean = fills_keeps_line w v i p can past.shelf (past.line clean)
step_keeps_line w u (Drops x can) past clean = drops_keeps_line w x can past.shelf (past.line clean)
step_keeps_line w u (Deletes v x can) past clean = deletes_keeps_line w v x can past.shelf (past.line clean)
step_keeps_line w u (Raises low can) past clean = raises_keeps_line w low can clean past.shelf (past.line clean)
step_keeps_line w u (Fences v c can) past clean = fences_keeps_line w v c can past.shelf (past.line clean)
step_keeps_line w u (Seals x text count server content can) past clean = seals_keeps_line w x text count server content can past.shelf (past.line clean)
step_keeps_line w u (Restripes x text count server can) past clean = restripes_keeps_line w x text count server can past.shelf (past.line clean)
step_keeps_line w u (Notes p can) past clean = notes_keeps_line w p can past.shelf (past.line clean)
step_keeps_line w u (Settles can) past clean = settles_keeps_line w can past.shelf (past.line clean)
step_keeps_line w u Crashes past clean = crashes_keeps_line w past.shelf (past.line clean)
step_keeps_line w u (Restarts can) past clean = absurd (omega arith)
step_keeps_line w u (Begins can) past clean = begins_keeps_line w can past.shelf (past.line clean)
step_keeps_line w u (Picks_none list_of low can) past clean = picks_none_keeps_line w list_of low can past.shelf (past.line clean)
step_keeps_line w u (Picks_kept list_of low x can) past clean = picks_kept_keeps_line w list_of low x can past.shelf (past.line clean)
step_keeps_line w u (Picks_prior list_of low x i can) past clean = picks_prior_keeps_line w list_of low x i can past.shelf (past.line clean)
step_keeps_line w u (Cuts low can) past clean = cuts_keeps_line w low can past.shelf (past.line clean)
step_keeps_line w u (Opens x text count server can) past clean = opens_keeps_line w x text count server can past.shelf (past.line clean)
step_keeps_line w u (Serves path lowest sure can) past clean =
    let was = served_clean w path lowest sure can clean in
    serves_keeps_line w path lowest sure can past.shelf (past.line was.0) (opening_after w can.writing past.shelf (λ k. past.rising was.0 (was.1 k)))
    (λ k. past.rising was.0 (was.1 k))

step_keeps_spans : (w u : State) → Step w u → Invariant w → u.clean ≡ 1 → Spans u
step_keeps_spans w u (Loses v) past clean = loses_keeps_spans w v past.shelf (past.line clean) (past.spans clean)
step_keeps_spans w u (Hears v g can) past clean = hears_keeps_spans w v g can past.shelf (past.line clean) (past.spans clean)
step_keeps_spans w u (Learns map can) past clean = learns_keeps_spans w map can past.shelf (past.line clean) (past.spans clean)
step_keeps_spans w u (Sends x i can) past clean = sends_keeps_spans w x i can past.shelf (past.line clean) (past.spans clean)
step_keeps_spans w u (Accepts p can) past clean = accepts_keeps_spans w p can past.shelf (past.line clean) (past.spans clean)
step_keeps_spans w u (Accepts_again p can) past clean = accepts_again_keeps_spans w p can past.shelf (past.line clean) (past.spans clean)
step_keeps_spans w u (Tells v x can) past clean = tells_keeps_spans w v x can past.shelf (past.line clean) (past.spans clean)
step_keeps_spans w u (Fills v i p can) past clean = fills_keeps_spans w v i p can past.shelf (past.line clean) (past.spans clean)
step_keeps_spans w u (Drops x can) past clean = drops_keeps_spans w x can past.shelf (past.line clean) (past.spans clean)
step_keeps_spans w u (Deletes v x can) past clean = deletes_keeps_spans w v x can past.shelf (past.line clean) (past.spans clean)
step_keeps_spans w u (Raises low can) past clean = raises_keeps_spans w low can past.shelf (past.line clean) (past.spans clean)
step_keeps_spans w u (Fences v c can) past clean = fences_keeps_spans w v c can past.shelf (past.line clean) (past.spans clean)
step_keeps_spans w u (Seals x text count server content can) past clean =
    seals_keeps_spans w x text count server content can past.shelf (past.line clean) (past.spans clean)
step_keeps_spans w u (Restripes x text count server can) past clean =
    restripes_keeps_spans w x text count server can past.shelf (past.line clean) (past.spans clean)
step_keeps_spans w u (Notes p can) past clean = notes_keeps_spans w p can past.shelf (past.line clean) (past.spans clean)
step_keeps_spans w u (Settles can) past clean = settles_keeps_spans w can past.shelf (past.line clean) (past.spans clean)
step_keeps_spans w u Crashes past clean = crashes_keeps_spans w past.shelf (past.line clean) (past.spans clean)
step_keeps_spans w u (Restarts can) past clean = absurd (omega arith)
step_keeps_spans w u (Begins can) past clean = begins_keeps_spans w can past.shelf (past.line clean) (past.spans clean)
step_keeps_spans w u (Picks_none list_of low can) past clean = picks_none_keeps_spans w list_of low can past.shelf (past.line clean) (past.spans clean)
step_keeps_spans w u (Picks_kept list_of low x can) past clean = picks_kept_keeps_spans w list_of low x can past.shelf (past.line clean) (past.spans clean)
step_keeps_spans w u (Picks_prior list_of low x i can) past clean =
    picks_prior_keeps_spans w list_of low x i can past.shelf (past.line clean) (past.spans clean)
step_keeps_spans w u (Cuts low can) past clean = cuts_keeps_spans w low can past.shelf (past.line clean) (past.spans clean)
step_keeps_spans w u (Opens x text count server can) past clean = opens_keeps_spans w x text count server can past.shelf (past.line clean) (past.spans clean)
step_keeps_spans w u (Serves path lowest sure can) past clean =
    let was = served_clean w path lowest sure can clean in
    serves_keeps_spans w path lowest sure can past.shelf (past.line was.0) (past.spans was.0)
    (opening_after w can.writing past.shelf (λ k. past.rising was.0 (was.1 k))) (λ k. past.rising was.0 (was.1 k))

step_keeps_rising : (w u : State) → Step w u → Invariant w → u.clean ≡ 1 → Undoubted u → Rising u
step_keeps_rising w u (Loses v) past clean holds = loses_keeps_rising w v past.shelf (past.line clean) (past.spans clean) (past.rising clean) holds
step_keeps_rising w u (Hears v g can) past clean holds = hears_keeps_rising w v g can past.shelf (past.line clean) (past.spans clean) (past.rising clean) holds
step_keeps_rising w u (Learns map can) past clean holds =
    learns_keeps_rising w map can past.shelf (past.line clean) (past.spans clean) (past.rising clean) holds
step_keeps_rising w u (Sends x i can) past clean holds = sends_keeps_rising w x i can past.shelf (past.line clean) (past.spans clean) (past.rising clean) holds
step_keeps_rising w u (Accepts p can) past clean holds = accepts_keeps_rising w p can past.shelf (past.line clean) (past.spans clean) (past.rising clean) holds
step_keeps_rising w u (Accepts_again p can) past clean holds =
    accepts_again_keeps_rising w p can past.shelf (past.line clean) (past.spans clean) (past.rising clean) holds
step_keeps_rising w u (Tells v x can) past clean holds = tells_keeps_rising w v x can past.shelf (past.line clean) (past.spans clean) (past.rising clean) holds
step_keeps_rising w u (Fills v i p can) past clean holds =
    fills_keeps_rising w v i p can past.shelf (past.line clean) (past.spans clean) (past.rising clean) holds
step_keeps_rising w u (Drops x can) past clean holds = drops_keeps_rising w x can past.shelf (past.line clean) (past.spans clean) (past.rising clean) holds
step_keeps_rising w u (Deletes v x can) past clean holds =
    deletes_keeps_rising w v x can past.shelf (past.line clean) (past.spans clean) (past.rising clean) holds
step_keeps_rising w u (Raises low can) past clean holds =
    raises_keeps_rising w low can past.shelf (past.line clean) (past.spans clean) (past.rising clean) holds
step_keeps_rising w u (Fences v c can) past clean holds =
    fences_keeps_rising w v c can past.shelf (past.line clean) (past.spans clean) (past.rising clean) holds
step_keeps_rising w u (Seals x text count server content can) past clean holds =
    seals_keeps_rising w x text count server content can past.shelf (past.line clean) (past.spans clean) (past.rising clean) holds
step_keeps_rising w u (Restripes x text count server can) past clean holds =
    restripes_keeps_rising w x text count server can past.shelf (past.line clean) (past.spans clean) (past.rising clean) holds
step_keeps_rising w u (Notes p can) past clean holds = notes_keeps_rising w p can past.shelf (past.line clean) (past.spans clean) (past.rising clean) holds
step_keeps_rising w u (Settles can) past clean holds = settles_keeps_rising w can past.shelf (past.line clean) (past.spans clean) (past.rising clean) holds
step_keeps_rising w u Crashes past clean holds = crashes_keeps_rising w past.shelf (past.line clean) (past.spans clean) (past.rising clean) holds
step_keeps_rising w u (Restarts can) past clean holds = absurd (omega arith)
step_keeps_rising w u (Begins can) past clean holds = begins_keeps_rising w can past.shelf (past.line clean) (past.spans clean) (past.rising clean) holds
step_keeps_rising w u (Picks_none list_of low can) past clean holds =
    picks_none_keeps_rising w list_of low can past.shelf (past.line clean) (past.spans clean) (past.rising clean) holds
step_keeps_rising w u (Picks_kept list_of low x can) past clean holds =
    picks_kept_keeps_rising w list_of low x can past.shelf (past.line clean) (past.spans clean) (past.rising clean) holds
step_keeps_rising w u (Picks_prior list_of low x i can) past clean holds =
    picks_prior_keeps_rising w list_of low x i can past.shelf (past.line clean) (past.spans clean) (past.rising clean) holds
step_keeps_rising w u (Cuts low can) past clean holds = cuts_keeps_rising w low can past.shelf (past.line clean) (past.spans clean) (past.rising clean) holds
step_keeps_rising w u (Opens x text count server can) past clean holds =
    opens_keeps_rising w x text count server can past.shelf (past.line clean) (past.spans clean) (past.rising clean) holds
step_keeps_rising w u (Serves path lowest sure can) past clean holds =
    let was = served_clean w path lowest sure can clean in
    serves_keeps_rising w path lowest sure can past.shelf (past.line was.0) (opening_after w can.writing past.shelf (λ k. past.rising was.0 (was.1 k)))
    (λ k. past.rising was.0 (was.1 k))

pub step_keeps : (w u : State) → Step w u → Invariant w → Invariant u
step_keeps w u step i = record {
  shelf = step_keeps_shelf w u step i.shelf;
  line = step_keeps_line w u step i;
  spans = step_keeps_spans w u step i;
  rising = step_keeps_rising w u step i;
}

new_log_invariant : (servers : ℕ) (seq_of incarnation_of attempt_of : ℕ → ℕ) → Names seq_of incarnation_of attempt_of
    → Invariant (new_log servers seq_of incarnation_of attempt_of)
new_log_invariant servers seq_of incarnation_of attempt_of names = record {
  shelf = new_log_shelf servers seq_of incarnation_of attempt_of names;
  line = λ clean. new_log_line servers seq_of incarnation_of attempt_of names;
  spans = λ clean. new_log_spans servers seq_of incarnation_of attempt_of;
  rising = λ clean holds. new_log_rising servers seq_of incarnation_of attempt_of;
}

pub run_keeps : (w u : State) → Steps w u → Invariant w → Invariant u
run_keeps w u Done i = i
run_keeps w u (More {v = v} run step) i = step_keeps v u step (run_keeps w v run i)

pub always : (w : State) → Reached w → Invariant w
always w reached =
    run_keeps (new_log w.servers w.seq_of w.incarnation_of w.attempt_of) w reached.run
    (new_log_invariant w.servers w.seq_of w.incarnation_of w.attempt_of reached.names)
