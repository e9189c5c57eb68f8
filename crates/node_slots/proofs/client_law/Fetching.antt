-- A block that isn't held, and of which a want is open, comes to be held by an answer alone: nothing else that a client does has a block held
-- that isn't, and what was read is taken only where nothing is wanted.
use Rattle.std.proofs.Common.{◌≡◌, ◌⊎◌, inl, inr, true, false, Option, Some, None, is_some, is_none, refl, sym, ap, subst, ◌∙◌}
use Rattle.client_node.specs.declared.client.Client.{Client}
use Rattle.client_node.specs.declared.phase.Phase.TheVariants.{Serving as Serves}
use Rattle.client_node.specs.declared.phase.Phase.{Phase}
use Rattle.client_node.specs.Phases.{takes}
use Rattle.client_node.specs.Starting.{client_start}
use Rattle.client_serving.specs.declared.serving.Serving.{Serving}
use Rattle.client_serving.specs.Flights.{held_at}
use Rattle.token_client.specs.declared.held.Held.{Held}
use Rattle.token_client.specs.Held.{let_go, may_end_fetch, version_settled, held_write}
use Rattle.token_client.specs.State.{TokensState, held_of, with_held}
use Rattle.wire_msg.specs.declared.body.Body.{Body}
use Rattle.wire_msg.specs.declared.body.Body.TheVariants as body
use Rattle.wire_msg.specs.declared.packet.Do.{Do}
use Rattle.wire_msg.specs.declared.packet.Do.TheVariants.{Begin, Deliver, Tick}
use Rattle.xfs_base.specs.Blocks.{same_block}
use Rattle.xfs_base.specs.declared.block.BlockId.{BlockId}
use Rattle.xfs_base.specs.Modes.{is_held}
use Rattle.xfs_base.proofs.BlockOrder.{same_block_exact, same_block_itself}
use Rattle.xfs_base.proofs.Booleans.{and_second, contrary}
use Rattle.node_slots.specs.node_tie.AskingEvents.{PhaseAsks}
use Rattle.node_slots.proofs.node_tie.AsksEvents.{first_asks}
use Rattle.node_slots.specs.client_law.Events.{after_events}
use Rattle.node_slots.specs.client_law.Fetching.{BringsAnswer, ByAnAnswerAlone, IsAnswer, WantsEndByAnAnswer}
use Rattle.node_slots.proofs.client_law.Asking.{after-asks}
use Rattle.node_slots.proofs.client_law.Caching.{put_cases}
use Rattle.node_slots.proofs.client_law.Giving.{AnyLog, AnyOpening, any_reopens}
use Rattle.node_slots.proofs.client_law.Happening.{AnyMap, ArrivesTo, PhaseHolds, Starts, brings_any, takes-so}
use Rattle.node_slots.proofs.client_law.Keeping.{Fact, Keeps, TakesKeep}
use Rattle.node_slots.proofs.client_law.Orders.{either}
use Rattle.node_slots.proofs.client_law.Packets.{Arrives}
use Rattle.node_slots.proofs.client_law.Puts.{PutsKeep, changes-tokens, cleaned-tokens, gone-tokens, logs-tokens}

module _ (block : BlockId) where
  -- the block isn't held
  abbrev Unheld : TokensState → Type 0
  Unheld t = is_held (held_of t.blocks block).mode ≡ false

  abbrev U : Fact
  U t l c = Unheld t

  -- another block than this one
  abbrev IsOther : BlockId → Type 0
  IsOther b = b ≡ block → ⊥

  -- what is known of this block, by any name
  here : (t : TokensState) (b : BlockId) → Unheld t → b ≡ block → is_held (held_of t.blocks b).mode ≡ false
  here t b p fact = ap (λ a. is_held (held_of t.blocks a).mode) fact ∙ p

  unheld_put : (t : TokensState) → Unheld t → (b : BlockId) (g : Held) → (b ≡ block → is_held g.mode ≡ false) → Unheld (with_held t b g)
  unheld_put t p b g low = put_cases (λ q f. q ≡ block → is_held f.mode ≡ false) b g t.blocks low (λ q other fact. here t q p fact) block refl

  -- a block is put in the mode in which it was
  unheld_same : (t : TokensState) → Unheld t → (b : BlockId) (g : Held) → g.mode ≡ (held_of t.blocks b).mode → Unheld (with_held t b g)
  unheld_same t p b g same = unheld_put t p b g (λ fact. ap is_held same ∙ here t b p fact)

  takes-unheld : TakesKeep U
  takes-unheld = record {
    quiet = λ t u l c q p. ap is_held (q block).mode ∙ p;
    puts_off = λ t l c b g dirty fact p. unheld_same t p b g fact.mode;
    lets = λ t l c b g clean fact p. unheld_put t p b g (λ same. ap is_held fact.mode);
    lowers = λ t l c b g clean fact p. unheld_put t p b g (λ same. contrary (sym (here t b p same) ∙ fact.held));
    leaves = λ t l c b nothing p. p;
    seals = λ t l c p. p;
  }

  puts-unheld : PutsKeep Unheld
  puts-unheld = record {
    takes = takes-unheld;
    lets_go = λ t b p. unheld_put t p b (let_go (held_of t.blocks b)) (λ fact. refl);
    settles = λ t b ver p. unheld_same t p b (version_settled (held_of t.blocks b) ver) refl;
    writes = λ t b value p. unheld_same t p b (held_write (held_of t.blocks b) value) refl;
  }

  -- where another block arrives, if any, this one isn't held still
  keeps-unheld : Keeps IsOther AnyMap U (λ n. U) (λ b. U)
  keeps-unheld = record {
    begins = λ t l c p room. p;
    less = λ t l c p. p;
    ends = λ t l c p. p;
    takes = λ n. takes-unheld;
    touches = λ t l c b p. p;
    copies = λ s b g other sound fact p.
        cleaned-tokens Unheld puts-unheld (record s { tokens = with_held s.tokens b g }) b (unheld_put s.tokens p b g (λ same. absurd (other same)));
    owns = λ t l c b g other sound fact p. unheld_put t p b g (λ same. absurd (other same));
    logs = λ s i outer sound p. logs-tokens Unheld puts-unheld s i p;
    puts = λ s b value sound may p. changes-tokens Unheld puts-unheld s b value p;
    puts_owned = λ s b value sound may p. changes-tokens Unheld puts-unheld s b value p;
    lets_owned = λ s b sound p. gone-tokens Unheld puts-unheld s b p;
  }

  starts-unheld : Starts U AnyLog
  starts-unheld inc epochs l capacity h = refl

  -- ---- an event

  module _ (s : Serving) (wants : is_some (held_at s block).want ≡ true) where
    none_is : {X : Type 0} (o : Option X) → is_some o ≡ true → is_none o ≡ true → false ≡ true
    none_is None some none = some
    none_is (Some x) some none = none

    -- what is wanted isn't taken from what was read
    unread : (b : BlockId) → may_end_fetch (held_at s b) ≡ true → IsOther b
    unread b may same =
        contrary (none_is (held_at s block).want wants (ap (λ a. is_none (held_at s a).want) (sym same) ∙ and_second (is_some (held_at s b).fetch) _ may))

    by_name : {X : Type 0} (b : BlockId) → (b ≡ block → X) → (IsOther b → X) → X
    by_name {X = X} b f g = by_same (either (same_block b block))
      where
        by_same : (same_block b block ≡ true) ⊎ (same_block b block ≡ false) → X
        by_same (inl same) = f (sym (same_block_exact b block same))
        by_same (inr other) = g (λ fact. contrary (sym other ∙ ap (λ a. same_block a block) fact ∙ same_block_itself block))

    answered : (m : Body) → IsAnswer block m ⊎ Arrives IsOther s m
    answered (body.Grant m) = by_name m.block (λ fact. inl fact) (λ other. inr other)
    answered (body.Supply m) = by_name m.block (λ fact. inl fact) (λ other. inr other)
    answered (body.Fragment m) = inr unread
    answered (body.Missing m) = inr unread
    answered _ = inr tt

    brings : (what : Do) → BringsAnswer block what ⊎ ArrivesTo IsOther (Serves s) what
    brings Begin = inr tt
    brings (Deliver packet) = answered packet.body
    brings Tick = inr tt

  module _ (client : Client) (what : Do) (asks : PhaseAsks client.phase) (s t : Serving) (fact : client.phase ≡ Serves s)
      (becomes : (takes client what).state ≡ Serves t)
      (unheld : is_held (held_at s block).mode ≡ false) where
    abbrev Holds : Phase → Type 0
    Holds = PhaseHolds IsOther AnyMap U (λ n. U) (λ b. U) keeps-unheld AnyOpening AnyLog any_reopens starts-unheld

    -- it isn't held still, where others arrive alone
    stays_unheld : ArrivesTo IsOther (Serves s) what → is_held (held_at t block).mode ≡ false
    stays_unheld arrives =
        subst Holds becomes
        (takes-so IsOther AnyMap U (λ n. U) (λ b. U) keeps-unheld AnyOpening AnyLog any_reopens starts-unheld client what
        (subst (λ phase. ArrivesTo IsOther phase what) (sym fact) arrives) (brings_any what) asks (subst Holds (sym fact) unheld))

    by_answer : is_held (held_at t block).mode ≡ true → BringsAnswer block what ⊎ ArrivesTo IsOther (Serves s) what → BringsAnswer block what
    by_answer held (inl answer) = answer
    by_answer held (inr arrives) = contrary (sym (stays_unheld arrives) ∙ held)

by_an_answer_alone : (client : Client) (what : Do) → PhaseAsks client.phase → ByAnAnswerAlone client what
by_an_answer_alone client what asks s t block fact becomes wants unheld held =
    by_answer block client what asks s t fact becomes unheld held (brings block s wants what)

pub wants_end_by_an_answer : WantsEndByAnAnswer
wants_end_by_an_answer number setup works events what =
    by_an_answer_alone (after_events (client_start number setup works) events) what
    (after-asks (client_start number setup works) events (first_asks number setup works))
