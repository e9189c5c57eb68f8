-- Each item is answered in a line: a listing is a client's, to a call on files, and what its plan replies; no other node answers one.
use Rattle.std.proofs.Common.{◌≡◌, ℕ, Bool, true, false, List, [], ◌∷◌, ◌++◌, length, Option, Some, None, inl, inr, refl, sym, ap, subst, ◌∙◌}
use Rattle.std.specs.List.{AllByRecursion}
use Rattle.client_call.specs.Calls.{may_make}
use Rattle.cleaner_node.specs.CleanerEvents as cleaner
use Rattle.cleaner_node.specs.declared.cleaner.Phase.{Phase as CleanerPhase}
use Rattle.cleaner_node.specs.declared.cleaner.Phase.TheVariants as phases
use Rattle.client_node.specs.declared.client.Client.{Client as AClient}
use Rattle.client_node.specs.Phases.{lasting_of}
use Rattle.core_world.specs.AnyNode.{any_start, any_step}
use Rattle.core_world.specs.declared.any_node.AnyNode.{AnyNode}
use Rattle.core_world.specs.declared.any_node.AnyNode.TheVariants as any
use Rattle.headline.specs.Answers.{IsDoneBy, IsFounded}
use Rattle.headline.specs.Files.{BeganBehind, IsByPlan, IsGiven}
use Rattle.headline.specs.Items.{asked_at}
use Rattle.headline.specs.Moments.{acts_in, moment}
use Rattle.journal_law.specs.Runs.{IsAnsweredInALine, IsOneLine}
use Rattle.log_owner.specs.declared.opening.Stage.{Stage}
use Rattle.log_owner.specs.declared.opening.Stage.TheVariants as stage
use Rattle.manager_node.specs.Events as manager
use Rattle.manager_node.specs.Phases as managers
use Rattle.node_base.specs.Beginning.{answers_unanswered, items_begin, items_wait}
use Rattle.node_base.specs.declared.effects.Effect.{Effect}
use Rattle.node_base.specs.declared.effects.Effect.TheVariants.{Send, Answer as Answers, Lose, Does}
use Rattle.node_base.specs.declared.items.Items.{Items}
use Rattle.node_base.specs.Effects.{acts_of}
use Rattle.registry_node.specs.Events as registry
use Rattle.run_answers.proofs.once_law.Runs.{node_known}
use Rattle.run_answers.specs.act_law.Files.{EachFileAnswerIsPlanned}
use Rattle.run_answers.specs.act_law.Runs.{EachAnswersActs}
use Rattle.run_answers.specs.once_law.Runs.{EachItemIsAnsweredOnce}
use Rattle.serving_moves.proofs.item_moves.Cleaners.{cleaner_turned}
use Rattle.serving_moves.proofs.item_moves.Keeping.{filing_aside}
use Rattle.serving_moves.proofs.item_moves.Managers.{manager_turned}
use Rattle.serving_moves.proofs.item_moves.Registries.{registry_turned}
use Rattle.serving_moves.proofs.item_moves.Servers.{server_turned}
use Rattle.serving_moves.specs.item_moves.Events.{cleaner_losses, log_losses}
use Rattle.serving_moves.specs.item_moves.Moves.{AllPlain, Begun, Event, IsAside, IsCleaners, IsCount, IsNone, IsPrompt, IsRebuilt, Losses, MayAct, Move, Moves}
use Rattle.serving_moves.specs.item_moves.Moves.Begun.{AtOnce, Waits}
use Rattle.serving_moves.specs.item_moves.Moves.Event.{Begins, Cuts, GoesOn, Idles}
use Rattle.serving_moves.specs.item_moves.Moves.Losses.{Silent, Telling}
use Rattle.serving_moves.specs.item_moves.Moves.Move.{Stays, Ends, Loses}
use Rattle.serving_moves.specs.item_moves.Moves.Moves.{Last, Then}
use Rattle.store_nodes.specs.ServerEvents as server
use Rattle.token_protocol.specs.Basics.{In}
use Rattle.version_model.specs.declared.act.Act.{Act}
use Rattle.version_model.specs.declared.act.Act.TheVariants as act
use Rattle.version_model.specs.declared.answer.Answer.{Answer}
use Rattle.version_model.specs.declared.answer.Answer.TheVariants as answer
use Rattle.version_model.specs.declared.file_call.FileCall.{FileCall}
use Rattle.version_model.specs.declared.work.Work.{Work}
use Rattle.version_model.specs.declared.work.Work.TheVariants as work
use Rattle.wire_msg.specs.declared.packet.Do.{Do}
use Rattle.world_base.specs.declared.estate.Estate.{Estate}
use Rattle.world_base.specs.declared.world.World.{World}
use Rattle.world_base.specs.Events.{node_of, what_of}
use Rattle.world_base.specs.Items.{items_of}
use Rattle.world_base.specs.NextWorld.{start_world}
use Rattle.world_base.specs.Runs.{IsRun}
use Rattle.xfs_base.proofs.Alls.{all_append}
use Rattle.xfs_base.specs.declared.node.NodeId.{NodeId}
use Rattle.xfs_base.specs.declared.node.NodeId.TheVariants as nodes
use Rattle.run_audits.proofs.Acted.{Acted, acted, among, at_end, there}
use Rattle.run_audits.proofs.Clients.{all_of}
use Rattle.run_audits.proofs.Listings.{replies_in_a_line}

-- ---- nodes that are no clients

abbrev InLine : Effect → Type 0
InLine (Answers item a) = IsOneLine a
InLine (Does a) = IsAside a
InLine _ = Unit {0}

abbrev AllInLine : List Effect → Type 0
AllInLine outs = AllByRecursion InLine outs

both : (xs ys : List Effect) → AllInLine xs → AllInLine ys → AllInLine (xs ++ ys)
both xs ys a b = all_append InLine xs ys a b

open_in_line : (item : Option ℕ) (a : Answer) → IsOneLine a → AllInLine (answers_unanswered item a)
open_in_line None a line = tt
open_in_line (Some item) a line = (line, tt)

aside_in_line : (a : Act) → IsAside a → IsAnsweredInALine a
aside_in_line (act.Filed seg) aside = tt
aside_in_line (act.Dropped seg) aside = tt
aside_in_line _ aside = absurd aside

acts_in_line : (me : NodeId) (outs : List Effect) → AllInLine outs → AllByRecursion IsAnsweredInALine (acts_of me outs)
acts_in_line me [] all = tt
acts_in_line me (Send to said ∷ outs) all = acts_in_line me outs all.1
acts_in_line me (Answers item a ∷ outs) all = (all.0, acts_in_line me outs all.1)
acts_in_line me (Lose name ∷ outs) all = (tt, acts_in_line me outs all.1)
acts_in_line me (Does a ∷ outs) all = (aside_in_line a all.0, acts_in_line me outs all.1)

count_line : (a : Answer) → IsCount a → IsOneLine a
count_line (answer.Count count) so = tt
count_line _ so = absurd so

rebuilt_line : (a : Answer) → IsRebuilt a → IsOneLine a
rebuilt_line (answer.Rebuilt filled gone) so = tt
rebuilt_line _ so = absurd so

cleaners_line : (a : Answer) → IsCleaners a → IsOneLine a
cleaners_line answer.Done so = tt
cleaners_line (answer.Count count) so = tt
cleaners_line _ so = absurd so

none_line : (a : Answer) → IsNone a → IsOneLine a
none_line a so = absurd so

prompt_line : (a : Answer) → IsPrompt a → IsOneLine a
prompt_line (answer.Names names) so = absurd so
prompt_line _ so = tt

module _ (losses : Losses) (aside : (a : Act) → MayAct losses a → IsAside a) (J : Answer → Type 0) (line : (a : Answer) → J a → IsOneLine a) where
  plain_in : (outs : List Effect) → AllPlain losses outs → AllInLine outs
  plain_in [] plain = tt
  plain_in (Send to said ∷ outs) plain = (tt, plain_in outs plain.1)
  plain_in (Answers item a ∷ outs) plain = absurd plain.0
  plain_in (Lose name ∷ outs) plain = (tt, plain_in outs plain.1)
  plain_in (Does a ∷ outs) plain = (aside a plain.0, plain_in outs plain.1)

  move_in : (before after : Items) (outs : List Effect) → Move losses J before outs after → AllInLine outs
  move_in before after outs (Stays stay plain) = plain_in outs plain
  move_in before after outs (Ends a so) = open_in_line before.unanswered a (line a so)
  move_in before after outs (Loses name first may plain among) =
      both first (answers_unanswered before.unanswered (answer.Lost name)) (plain_in first plain) (open_in_line before.unanswered (answer.Lost name) tt)

  moves_in : (before after : Items) (outs : List Effect) → Moves losses J before outs after → AllInLine outs
  moves_in before after outs (Last move) = move_in before after outs move
  moves_in before after outs (Then between first more move rest) = both first more (move_in before between first move) (moves_in between after more rest)

  begun_in : (before after : Items) (number : ℕ) (outs : List Effect) → Begun losses J IsPrompt before number outs after → AllInLine outs
  begun_in before after number outs (AtOnce a first more so plain rest) =
      both first (Answers number a ∷ more) (plain_in first plain) (prompt_line a so, plain_in more rest)
  begun_in before after number outs (Waits made) = moves_in (items_wait before number) after outs made

  event_in : (before after : Items) (what : Do) (outs : List Effect) → Event losses J IsPrompt before what outs after → AllInLine outs
  event_in before after what outs (GoesOn made) = moves_in before after outs made
  event_in before after what outs (Idles is) = tt
  event_in before after what outs (Begins number is next made) = begun_in (items_begin before) after number outs made
  event_in before after what outs (Cuts number first more is next falls plain rest) =
      both first (answers_unanswered (items_begin before).unanswered answer.Cut ++ Answers number answer.Done ∷ more) (plain_in first plain)
      (both (answers_unanswered (items_begin before).unanswered answer.Cut) (Answers number answer.Done ∷ more)
      (open_in_line (items_begin before).unanswered answer.Cut tt) (tt, plain_in more rest))

log_aside : (at : Stage) (a : Act) → MayAct (log_losses at) a → IsAside a
log_aside (stage.Scanning s) a may = may
log_aside (stage.Settling s) a may = may

cleaner_aside : (p : CleanerPhase) (a : Act) → MayAct (cleaner_losses p) a → IsAside a
cleaner_aside (phases.Down l) a may = may
cleaner_aside (phases.Opening l o) a may = log_aside o.stage a may
cleaner_aside (phases.Serving e) a may = may

-- ---- clients

split : (xs : List Act) (x : Act) → In x xs → (before : List Act) × (behind : List Act) × (xs ≡ before ++ x ∷ behind)
split [] x fact = absurd fact
split (y ∷ xs) x (inl same) = ([], xs, ap (λ z. z ∷ xs) (sym same))
split (y ∷ xs) x (inr fact) = (let s = split xs x fact in (y ∷ s.0, s.1, ap (λ zs. y ∷ zs) s.2))

given_line : (Began : ℕ → List Act → Type 0) (client item : ℕ) (call : FileCall) (t : Bool) (acts : List Act) (a : Answer)
    → IsGiven Began client item call t acts a → IsOneLine a
given_line Began client item call true acts a given = replies_in_a_line call item client given.answers a given.replies
given_line Began client item call false acts a given = subst IsOneLine (sym given) tt

by_plan_line : (Began : ℕ → List Act → Type 0) (client item : ℕ) (works : List Work) (w : Option Work) (before acts : List Act) (done : ℕ → Type 0)
    (names : List (List ℕ)) → IsFounded client works w before done (answer.Names names) → IsByPlan Began client item w acts (answer.Names names)
    → IsOneLine (answer.Names names)
by_plan_line Began client item works (Some (work.File c call)) before acts done names founded plan =
    given_line Began client item call (may_make item client) acts (answer.Names names) plan
by_plan_line Began client item works _ before acts done names founded plan = absurd founded

module _ (acts_law : EachAnswersActs) (plans : EachFileAnswerIsPlanned) (once : EachItemIsAnsweredOnce) (e : Estate AnyNode)
    (run : IsRun any_step any_start e.script e.events e.world) where
  client_line : (count : ℕ) (node : NodeId) (item : ℕ) (names : List (List ℕ)) (t : Acted e (act.Answered node item (answer.Names names)) count) (c : AClient)
      → t.node ≡ any.Client c → IsOneLine (answer.Names names)
  client_line count node item names t c is =
      let a : Act = act.Answered node item (answer.Names names) in
      let own : node ≡ node_of t.event = ((once e run).own t.at t.event t.happens node item (answer.Names names) (among e a count t)).own in
      let named = (node_known e t.at (node_of t.event) (any.Client c) (there e a count t ∙ ap Some is)).named in
      by (lasting_of c.phase).number (own ∙ sym named)
    where
      by : (client : ℕ) → node ≡ nodes.Client client → IsOneLine (answer.Names names)
      by client same =
          let s = split (acts_in (moment e t.at) t.event) (act.Answered (nodes.Client client) item (answer.Names names))
          (subst (λ (m : NodeId). In (act.Answered m item (answer.Names names)) (acts_in (moment e t.at) t.event)) same
          (among e (act.Answered node item (answer.Names names)) count t)) in
          by_plan_line (BeganBehind e client) client item (items_of e.script.lines (nodes.Client client))
          (asked_at (items_of e.script.lines (nodes.Client client)) item) s.0 ((moment e t.at).acts ++ s.0) (IsDoneBy (nodes.Client client) s.1) names
          ((acts_law e).clients t.at t.event t.happens client item (answer.Names names) s.0 s.1 s.2)
          (plans e t.at t.event t.happens client item (answer.Names names) s.0 s.1 s.2)

  -- an act of a node of this kind
  node_line : (a : Act) (count : ℕ) (t : Acted e a count) (x : AnyNode) → t.node ≡ x → In a (any_step x (what_of t.event)).acts → IsAnsweredInALine a
  node_line (act.Answered node item (answer.Names names)) count t (any.Client c) is fact = client_line count node item names t c is
  node_line (act.Answered node item _) count t (any.Client c) is fact = tt
  node_line _ count t (any.Client c) is fact = tt
  node_line a count t (any.Manager m) is fact =
      let what = what_of t.event in
      all_of IsAnsweredInALine (any_step (any.Manager m) what).acts
      (acts_in_line _ (manager.happens m what).outs
      (event_in Telling filing_aside IsCount count_line (managers.lasting_of m.phase).items (managers.lasting_of (manager.happens m what).state).items what
      (manager.happens m what).outs (manager_turned m what).event)) a fact
  node_line a count t (any.Server v) is fact =
      let what = what_of t.event in
      all_of IsAnsweredInALine (any_step (any.Server v) what).acts
      (acts_in_line _ (server.takes v what).outs
      (event_in Silent (λ b may. may) IsRebuilt rebuilt_line v.items (server.takes v what).state.items what (server.takes v what).outs (server_turned v what).event))
      a fact
  node_line a count t (any.Cleaner c) is fact =
      let what = what_of t.event in
      all_of IsAnsweredInALine (any_step (any.Cleaner c) what).acts
      (acts_in_line _ (cleaner.takes c.peers c.phase what).outs
      (event_in (cleaner_losses c.phase) (cleaner_aside c.phase) IsCleaners cleaners_line (cleaner.lasting_of c.phase).items
      (cleaner.lasting_of (cleaner.takes c.peers c.phase what).state).items what (cleaner.takes c.peers c.phase what).outs (cleaner_turned c what).event)) a fact
  node_line a count t (any.Registry r) is fact =
      let what = what_of t.event in
      all_of IsAnsweredInALine (any_step (any.Registry r) what).acts
      (acts_in_line _ (registry.takes r what).outs
      (event_in Silent (λ b may. may) IsNone none_line r.items (registry.takes r what).state.items what (registry.takes r what).outs (registry_turned r what).event))
      a fact

  all_from : (acts : List Act) → ((a : Act) → In a acts → IsAnsweredInALine a) → AllByRecursion IsAnsweredInALine acts
  all_from [] each = tt
  all_from (a ∷ acts) each = (each a (inl refl), all_from acts (λ b fact. each b (inr fact)))

  -- each act of the run
  pub answered_in_lines : AllByRecursion IsAnsweredInALine e.world.acts
  answered_in_lines =
      let count = length e.events in
      subst (λ (w : World AnyNode). AllByRecursion IsAnsweredInALine w.acts) (at_end e.events (start_world any_start e.script) e.world run)
      (all_from (moment e count).acts (λ a fact. (let t = acted e a count fact in node_line a count t t.node refl t.does)))
