-- In every run the version that a write answers is the newest of its block at the end of the event: the client holds the block with it then, and holders have the
-- newest.
use Rattle.std.proofs.Common.{◌≡◌, ◌⊎◌, ℕ, suc, List, [], ◌∷◌, ◌++◌, drop, length, slice_get, Option, Some, inl, inr, refl, sym, ap, subst, ◌∙◌}
use Rattle.std.proofs.Math.Seq.{drop-append_seam}
use Rattle.client_node.specs.declared.client.Client.{Client}
use Rattle.client_node.specs.declared.phase.Phase.{Phase}
use Rattle.client_node.specs.declared.phase.Phase.TheVariants.{Down, Opening, Serving as Serves}
use Rattle.client_node.specs.Phases.{takes}
use Rattle.core_world.specs.AnyNode.{any_step}
use Rattle.core_world.specs.declared.any_node.AnyNode.{AnyNode}
use Rattle.core_world.specs.declared.any_node.AnyNode.TheVariants as any
use Rattle.node_base.specs.declared.effects.Effect.{Effect}
use Rattle.node_base.specs.declared.effects.Effect.TheVariants.{Answer as Answers}
use Rattle.node_base.specs.Effects.{acts_of}
use Rattle.run_laws.proofs.world_law.Turning.{next_cluster}
use Rattle.run_laws.proofs.world_reads.Taking.{NothingHappens, Took, moment_next, node_then, takes_or_not}
use Rattle.headline.specs.Restarts.{NoDoubtfulRestart}
use Rattle.headline.specs.Moments.{acts_in, moment, node_in, node_named}
use Rattle.headline.specs.Owners.{tokens_at, tokens_in, tokens_of}
use Rattle.headline.specs.Versions.{HoldersAreNewestThroughout, IsNewest, history_at}
use Rattle.token_client.specs.State.{TokensState}
use Rattle.token_protocol.specs.Basics.{In}
use Rattle.version_model.specs.declared.act.Act.{Act}
use Rattle.version_model.specs.declared.act.Act.TheVariants as act
use Rattle.version_model.specs.declared.answer.Answer.TheVariants as answer
use Rattle.version_model.specs.declared.work.Work.{Work}
use Rattle.version_model.specs.declared.work.Work.TheVariants as work
use Rattle.world_base.specs.Cluster.{place_of}
use Rattle.world_base.specs.declared.estate.Estate.{Estate}
use Rattle.world_base.specs.declared.event.Event.{Event}
use Rattle.world_base.specs.declared.world.World.{World}
use Rattle.world_base.specs.Events.{node_of, what_of}
use Rattle.world_base.specs.Items.{items_of}
use Rattle.world_base.specs.NextWorld.{next_world}
use Rattle.xfs_base.specs.declared.node.NodeId.TheVariants as nodes
use Rattle.run_answers.proofs.act_law.Foundations.{Its}
use Rattle.run_answers.proofs.act_law.Newest.{WrittenIn, client_versed}
use Rattle.run_answers.proofs.act_law.Runs.{Stands, begins_next, client_turned, stand_at}
use Rattle.run_answers.proofs.act_law.Telling.{answered_by}
use Rattle.run_answers.proofs.act_law.Versions.{HasWritten}
use Rattle.run_answers.proofs.once_law.Runs.{Known, answers_itself, node_known}
use Rattle.headline.specs.Files.{BeganBehind}
use Rattle.headline.specs.Answers.{IsNewestOf, VersionsAreNewest}
use Rattle.headline.specs.Items.{asked_at, name_in}

module _ (e : Estate AnyNode) (count : ℕ) (event : Event) (happens : slice_get e.events count ≡ Some event) (client item ver : ℕ) where
  abbrev w : World AnyNode
  w = moment e count

  abbrev works : List Work
  works = items_of e.script.lines (nodes.Client client)

  abbrev its : Act
  its = act.Answered (nodes.Client client) item (answer.Version ver)

  -- the client serves behind the event, and holds what it wrote
  record HoldsIt (wanted : Option Work) : Type 0 where
    tokens : TokensState
    there : tokens_at (moment e (suc count)) client ≡ Some tokens
    written : HasWritten tokens wanted ver

  in_phase : (p : Phase) (wanted : Option Work) → tokens_at (moment e (suc count)) client ≡ tokens_in p → WrittenIn p wanted ver → HoldsIt wanted
  in_phase (Down l) wanted there f = absurd f
  in_phase (Opening l o) wanted there f = absurd f
  in_phase (Serves s) wanted there f = record { tokens = s.tokens; there = there; written = f }

  -- the tokens of the client behind the event, which is one of it
  tokens_then : (x : AnyNode) → Took w event x → nodes.Client client ≡ node_of event
      → tokens_at (moment e (suc count)) client ≡ tokens_of (Some (any_step x (what_of event)).node)
  tokens_then x took me =
      let next : World AnyNode = next_world any_step w event in
      ap (λ (v : World AnyNode). tokens_at v client) (moment_next e count event happens)
      ∙ (ap (λ k. tokens_of (node_in next.nodes (place_of k (nodes.Client client)))) (next_cluster any_step w event)
      ∙ (ap (λ n. tokens_of (node_in next.nodes (place_of w.cluster n))) me ∙ ap tokens_of (node_then w.cluster w refl event x took)))

  client_holds : (c : Client) → Took w event (any.Client c) → node_named w (node_of event) ≡ Some (any.Client c) → nodes.Client client ≡ node_of event
      → In its (any_step (any.Client c) (what_of event)).acts → HoldsIt (asked_at works item)
  client_holds c took there me among =
      let s : Stands e w.acts (node_of event) (any.Client c) = stand_at e count (node_of event) (any.Client c) there in
      let outs : List Effect = (takes c (what_of event)).outs in
      let own : List Work = items_of e.script.lines (node_of event) in
      let acted : In its (acts_of (nodes.Client s.0) outs) = subst (λ n. In its (acts_of (nodes.Client n) outs)) s.1.1.number among in
      let answers : In (Answers item (answer.Version ver)) outs =
      answered_by (nodes.Client s.0) (Its (BeganBehind e s.0) s.0 own w.acts) [] outs (client_turned e count event happens c there s).founded
      (nodes.Client client) item (answer.Version ver) acted in
      let written : WrittenIn (takes c (what_of event)).state (asked_at own item) ver =
      client_versed (BeganBehind e s.0) s.0 own w.acts c (what_of event) (begins_next e count event happens c s.0 s.1.0 there) s.1.1 item ver answers in
      in_phase (takes c (what_of event)).state (asked_at works item) (tokens_then (any.Client c) took me)
      (subst (λ n. WrittenIn (takes c (what_of event)).state (asked_at (items_of e.script.lines n) item) ver) (sym me) written)

  node_holds : (x : AnyNode) → Took w event x → node_named w (node_of event) ≡ Some x → nodes.Client client ≡ name_in x → nodes.Client client ≡ node_of event
      → In its (any_step x (what_of event)).acts → HoldsIt (asked_at works item)
  node_holds (any.Client c) took there is me among = client_holds c took there me among
  node_holds (any.Manager m) took there is me among = absurd cc
  node_holds (any.Server v) took there is me among = absurd cc
  node_holds (any.Cleaner c) took there is me among = absurd cc
  node_holds (any.Registry r) took there is me among = absurd cc

  took_holds : (x : AnyNode) → Took w event x → In its (acts_in w event) → HoldsIt (asked_at works item)
  took_holds x took among =
      let there : node_named w (node_of event) ≡ Some x = ap (node_in w.nodes) took.placed ∙ took.stands in
      let known : Known e (node_of event) x = node_known e count (node_of event) x there in
      let added : acts_in w event ≡ (any_step x (what_of event)).acts =
      ap (drop (length w.acts)) took.acts ∙ drop-append_seam w.acts (any_step x (what_of event)).acts in
      let acted : In its (any_step x (what_of event)).acts = subst (In its) added among in
      let is : nodes.Client client ≡ name_in x =
      answers_itself x (what_of event) known.waits (nodes.Client client) item (answer.Version ver) acted in
      node_holds x took there is (is ∙ known.named) acted

  stands_there : (front behind : List Act) → In its (front ++ its ∷ behind)
  stands_there [] behind = inl refl
  stands_there (y ∷ front) behind = inr (stands_there front behind)

  none_in : NothingHappens w event → In its (acts_in w event) → ⊥
  none_in none among = subst (In its) (ap (drop (length w.acts)) none.acts ∙ nothing_after w.acts) among
    where
      nothing_after : (xs : List Act) → drop (length xs) xs ≡ []
      nothing_after [] = refl
      nothing_after (x ∷ xs) = nothing_after xs

  holds_it : (before behind : List Act) → acts_in w event ≡ before ++ its ∷ behind → HoldsIt (asked_at works item)
  holds_it before behind at = by (takes_or_not w event)
    where
      among : In its (acts_in w event)
      among = subst (In its) (sym at) (stands_there before behind)

      by : NothingHappens w event ⊎ ((x : AnyNode) × Took w event x) → HoldsIt (asked_at works item)
      by (inl none) = absurd (none_in none among)
      by (inr p) = took_holds p.0 p.1 among

  newest : HoldersAreNewestThroughout e → NoDoubtfulRestart e (suc count) → (wanted : Option Work) → HoldsIt wanted
      → IsNewestOf wanted (moment e (suc count)) ver
  newest holders none (Some (work.Bput c block value)) h =
      subst (λ v. IsNewest (history_at (moment e (suc count)) block) v value) h.written.version
      (holders (suc count) none block client h.tokens value h.there h.written.held h.written.content)
  newest holders none _ h = absurd h.written

pub versions_are_newest : (e : Estate AnyNode) → HoldersAreNewestThroughout e → VersionsAreNewest e
versions_are_newest e holders count event happens none client item ver before behind at =
    newest e count event happens client item ver holders none (asked_at (items_of e.script.lines (nodes.Client client)) item)
    (holds_it e count event happens client item ver before behind at)
