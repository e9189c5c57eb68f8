-- What leaves the takeovers of a manager alone: what it does for clients and the cleaner in its slots, its checkpoints and its log. It asks for no fragment
-- then, and says of nothing that it is lost.
use Rattle.std.proofs.Common.{◌≡◌, ℕ, ◌==◌, ◌<◌, Bool, true, false, List, [], ◌∷◌, length, Option, Some, None, refl, sym, ap, subst, ◌∙◌, arith}
use Rattle.std.specs.List.{slice_get, slice_set}
use Rattle.std.specs.Prelude.{unwrap_or}
use Rattle.std.proofs.lemmas.Bool.{eqb-true}
use Rattle.std.proofs.lemmas.Bool.Decides.{nat_tests}
use Rattle.std.proofs.lemmas.Option.{slice_get_within}
use Rattle.manager_slots.specs.declared.slot_phase.SlotPhase.{SlotPhase}
use Rattle.manager_slots.specs.declared.slot_phase.SlotPhase.TheVariants as phase
use Rattle.manager_slots.specs.declared.slot_phase.Taking.{Taking}
use Rattle.manager_slots.specs.SlotTable as table
use Rattle.manager_slots.specs.SlotTable.{Table, all_slots, at_slot, changed_in, slot_table_clean, phase_clean, in_slot, slot_table_name, phase_name, slot_table_recall, recall_again, usage_in}
use Rattle.manager_slots.specs.Tokens as tokens
use Rattle.node_base.specs.Beginning.{answers_unanswered}
use Rattle.node_base.specs.declared.effects.Effect.{Effect}
use Rattle.node_slots.proofs.node_tie.ManagerTables.{set_here, set_there}
use Rattle.headline.specs.Managers.{phase_at}
use Rattle.token_manager.specs.declared.input.In.{In as SlotIn}
use Rattle.token_manager.specs.declared.input.In.TheVariants as slot_in
use Rattle.token_manager.specs.declared.output.Out.{Out as SlotOut}
use Rattle.token_manager.specs.declared.output.Out.TheVariants as slot_out
use Rattle.token_manager.specs.Transition.{transition}
use Rattle.version_model.specs.declared.answer.Answer.{Answer}
use Rattle.wire_msg.specs.declared.cleaning.Check.{Check}
use Rattle.wire_msg.specs.declared.cleaning.UsageAsk.{UsageAsk}
use Rattle.wire_msg.specs.declared.deltas.Deltas.{Deltas}
use Rattle.wire_msg.specs.declared.tokens.Gave.{Gave}
use Rattle.wire_msg.specs.declared.tokens.Want.{Want}
use Rattle.xfs_base.proofs.Booleans.{by_test}
use Rattle.xfs_base.specs.Blocks.{slot_of}
use Rattle.xfs_base.specs.declared.segment.LogId.{LogId}
use Rattle.xfs_base.specs.declared.segment.SegRef.{SegRef}
use Rattle.xfs_base.specs.Steps.{Stepped, steps, still}
use Rattle.xfs_base.proofs.Alls.{all_append, all_flat_map}
pub use Rattle.run_losses.proofs.fetching_law.Following.{AllQuiet, IsQuiet, NoFetch, NotLost}

-- ---- what is done

pub answers_quiet : (o : Option ℕ) (a : Answer) → AllQuiet (answers_unanswered o a)
answers_quiet None a = tt
answers_quiet (Some number) a = (tt, tt)

-- ---- slots

-- a slot that is taken over then was so before
abbrev pub Alike : Table → Table → Type 0
Alike t u = (k : ℕ) (x : Taking) → phase_at u k ≡ phase.Taking x → phase_at t k ≡ phase.Taking x

pub record PhaseRests (p : SlotPhase) (d : Stepped SlotPhase Effect) : Type 0 where
  pub alike : (x : Taking) → d.state ≡ phase.Taking x → p ≡ phase.Taking x
  pub does : AllQuiet d.outs

pub record TableRests (t : Table) (d : table.Done) : Type 0 where
  pub alike : Alike t d.state
  pub does : AllQuiet d.outs

not_active : (a : _) (x : Taking) → phase.Active a ≡ phase.Taking x → ⊥
not_active a x e = cc

same_phase : (p : SlotPhase) → PhaseRests p (still p)
same_phase p = record { alike = λ x fact. fact; does = tt }

said_quiet : (slot epoch : ℕ) (o : SlotOut) → AllQuiet (tokens.tokens_say slot epoch o)
unfolding tokens.tokens_say
said_quiet slot epoch (slot_out.Grant client block stamp inc req mode entry) = (tt, tt)
said_quiet slot epoch (slot_out.Forward client block stamp to inc req ver) = (tt, tt)
said_quiet slot epoch (slot_out.Recall client block stamp keep) = (tt, tt)
said_quiet slot epoch (slot_out.Applied log applied) = (tt, tt)
said_quiet slot epoch (slot_out.Live entry) = tt
said_quiet slot epoch slot_out.Dead = tt

takes_rests : (p : SlotPhase) (slot : ℕ) (given : SlotIn) → PhaseRests p (tokens.tokens_take p slot given)
unfolding tokens.tokens_take
takes_rests (phase.Active a) slot given = record {
  alike = λ x fact. absurd (not_active _ x fact);
  does = all_flat_map IsQuiet (tokens.tokens_say slot a.slot.epoch) (said_quiet slot a.slot.epoch) (transition a.slot given).outs;
}
takes_rests (phase.Away epoch) slot given = same_phase (phase.Away epoch)
takes_rests (phase.Taking t) slot given = same_phase (phase.Taking t)
takes_rests (phase.Broken epoch seg) slot given = same_phase (phase.Broken epoch seg)

wants_rests : (p : SlotPhase) (client : ℕ) (want : Want) → PhaseRests p (tokens.on_want p client want)
unfolding tokens.on_want
wants_rests (phase.Broken epoch seg) client want = record { alike = λ x fact. fact; does = (tt, tt) }
wants_rests (phase.Active a) client want = takes_rests (phase.Active a) (slot_of want.block.ino.0) (tokens.want_input client want)
wants_rests (phase.Away epoch) client want = takes_rests (phase.Away epoch) (slot_of want.block.ino.0) (tokens.want_input client want)
wants_rests (phase.Taking t) client want = takes_rests (phase.Taking t) (slot_of want.block.ino.0) (tokens.want_input client want)

check_quiet : (check : Check) (epoch : ℕ) (o : SlotOut) → AllQuiet (tokens.tokens_answer check epoch o)
unfolding tokens.tokens_answer
check_quiet check epoch (slot_out.Grant client block stamp inc req mode entry) = (tt, tt)
check_quiet check epoch (slot_out.Forward client block stamp to inc req ver) = (tt, tt)
check_quiet check epoch (slot_out.Recall client block stamp keep) = (tt, tt)
check_quiet check epoch (slot_out.Applied log applied) = (tt, tt)
check_quiet check epoch (slot_out.Live entry) = (tt, tt)
check_quiet check epoch slot_out.Dead = (tt, tt)

checks_rests : (p : SlotPhase) (check : Check) → PhaseRests p (tokens.on_check p check)
unfolding tokens.on_check
checks_rests (phase.Active a) check = record {
  alike = λ x fact. absurd (not_active _ x fact);
  does = all_flat_map IsQuiet (tokens.tokens_answer check a.slot.epoch) (check_quiet check a.slot.epoch) (transition a.slot (tokens.check_input check)).outs;
}
checks_rests (phase.Away epoch) check = same_phase (phase.Away epoch)
checks_rests (phase.Taking t) check = same_phase (phase.Taking t)
checks_rests (phase.Broken epoch seg) check = same_phase (phase.Broken epoch seg)

usage_quiet : (p : SlotPhase) (asked : UsageAsk) → AllQuiet (tokens.on_usage_ask p asked)
unfolding tokens.on_usage_ask
usage_quiet (phase.Active a) asked = (tt, tt)
usage_quiet (phase.Away epoch) asked = tt
usage_quiet (phase.Taking t) asked = tt
usage_quiet (phase.Broken epoch seg) asked = tt

-- ---- tables

-- a slot that is put has the phase that is put, or there is no such slot
pub set_alike : (t : Table) (k : ℕ) (q : SlotPhase) → k < length t → ((x : Taking) → q ≡ phase.Taking x → phase_at t k ≡ phase.Taking x)
    → Alike t (slice_set t k q)
set_alike t k q within same m x fact = by (m == k) refl
  where
    apart : (m == k) ≡ false → m ≡ k → ⊥
    apart e = grind (arith, nat_tests)

    by : (b : Bool) → (m == k) ≡ b → phase_at t m ≡ phase.Taking x
    by true e =
        let at : m ≡ k = eqb-true m k e in
        subst (λ n. phase_at t n ≡ phase.Taking x) (sym at)
        (same x (sym (set_here t k q within) ∙ (ap (phase_at (slice_set t k q)) (sym at) ∙ fact)))
    by false e = sym (set_there t k m q (apart e)) ∙ fact

at_slot-rests : (t : Table) (k : ℕ) (event : SlotPhase → Stepped SlotPhase Effect) → ((p : SlotPhase) → PhaseRests p (event p))
    → TableRests t (at_slot t k event)
at_slot-rests t k event each = by (slice_get t k) refl
  where
    by : (o : Option SlotPhase) → slice_get t k ≡ o → TableRests t (in_slot t k event o)
    by None fact = record { alike = λ m x at. at; does = tt }
    by (Some p) fact = (let r = each p in record {
      alike = set_alike t k (event p).state (slice_get_within t k p fact)
          (λ x at. ap (λ o. unwrap_or o (phase.Away 0)) fact ∙ r.alike x at);
      does = r.does;
    })

pub wants_alone : (t : Table) (client : ℕ) (want : Want) → TableRests t (table.on_want t client want)
unfolding table.on_want
wants_alone t client want = at_slot-rests t (slot_of want.block.ino.0) (λ p. tokens.on_want p client want) (λ p. wants_rests p client want)

pub gaves_alone : (t : Table) (client : ℕ) (gave : Gave) → TableRests t (table.on_gave t client gave)
unfolding table.on_gave
gaves_alone t client gave =
    at_slot-rests t (slot_of gave.block.ino.0) (λ p. tokens.on_gave p client gave)
    (λ p. takes_rests p (slot_of gave.block.ino.0) (tokens.gave_input client gave))

pub deltas_alone : (t : Table) (log : LogId) (deltas : Deltas) → TableRests t (table.on_deltas t log deltas)
unfolding table.on_deltas
deltas_alone t log deltas =
    at_slot-rests t deltas.slot (λ p. tokens.on_deltas p log deltas) (λ p. takes_rests p deltas.slot (tokens.deltas_input log deltas))

pub checks_alone : (t : Table) (check : Check) → TableRests t (table.on_check t check)
unfolding table.on_check
checks_alone t check = at_slot-rests t (slot_of check.block.ino.0) (λ p. tokens.on_check p check) (λ p. checks_rests p check)

pub usage_alone : (t : Table) (asked : UsageAsk) → AllQuiet (table.on_usage_ask t asked)
unfolding table.on_usage_ask
usage_alone t asked = by (slice_get t asked.slot)
  where
    by : (o : Option SlotPhase) → AllQuiet (usage_in asked o)
    by None = tt
    by (Some p) = usage_quiet p asked

pub recalls_alone : (t : Table) → TableRests t (recall_again t)
unfolding slot_table_recall
recalls_alone t = all t all_slots
  where
    one : (t : Table) (k : ℕ) → TableRests t (slot_table_recall t k)
    one t k = at_slot-rests t k (λ p. tokens.on_tick p k) (λ p. takes_rests p k slot_in.Tick)

    all : (t : Table) (ks : List ℕ) → TableRests t (steps slot_table_recall t ks)
    all t [] = record { alike = λ k x fact. fact; does = tt }
    all t (k ∷ ks) = (let a = one t k in let b = all (slot_table_recall t k).state ks in record {
      alike = λ m x fact. a.alike m x (b.alike m x fact);
      does = all_append IsQuiet (slot_table_recall t k).outs (steps slot_table_recall (slot_table_recall t k).state ks).outs a.does b.does;
    })

changed_alike : (t : Table) (k : ℕ) (change : SlotPhase → SlotPhase) → ((p : SlotPhase) (x : Taking) → change p ≡ phase.Taking x → p ≡ phase.Taking x)
    → Alike t (changed_in t k change (slice_get t k))
changed_alike t k change same = by (slice_get t k) refl
  where
    by : (o : Option SlotPhase) → slice_get t k ≡ o → Alike t (changed_in t k change o)
    by None fact = λ m x at. at
    by (Some p) fact = set_alike t k (change p) (slice_get_within t k p fact) (λ x at. ap (λ o. unwrap_or o (phase.Away 0)) fact ∙ same p x at)

pub cleaned_alike : (t : Table) (k : ℕ) → Alike t (slot_table_clean t k)
unfolding slot_table_clean phase_clean
cleaned_alike t k = changed_alike t k phase_clean same
  where
    same : (p : SlotPhase) (x : Taking) → phase_clean p ≡ phase.Taking x → p ≡ phase.Taking x
    same (phase.Active a) x fact = absurd (not_active _ x fact)
    same (phase.Away epoch) x fact = fact
    same (phase.Taking t) x fact = fact
    same (phase.Broken epoch seg) x fact = fact

pub named_alike : (t : Table) (k epoch : ℕ) (parts : List SegRef) → Alike t (slot_table_name t k epoch parts)
unfolding slot_table_name phase_name
named_alike t k epoch parts = changed_alike t k (phase_name epoch parts) same
  where
    same : (p : SlotPhase) (x : Taking) → phase_name epoch parts p ≡ phase.Taking x → p ≡ phase.Taking x
    same (phase.Active a) x fact =
        by_test (λ (q : SlotPhase). q ≡ phase.Taking x → phase.Active a ≡ phase.Taking x) (a.slot.epoch == epoch)
        (phase.Active (record a { parts = parts })) (phase.Active a) (λ _ e. absurd (not_active _ x e)) (λ _ e. e) fact
    same (phase.Away e) x fact = fact
    same (phase.Taking t) x fact = fact
    same (phase.Broken e seg) x fact = fact
