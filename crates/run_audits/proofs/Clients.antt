-- What a client acts it acts in its own name, which is that of a client of the run; it falls while it serves, by an item that begins, and it is back where its
-- opening ends; and it gives no segment up.
use Rattle.std.proofs.Common.{◌≡◌, ◌≤◌, ◌<◌, ℕ, List, [], ◌∷◌, ◌++◌, Option, Some, None, inl, inr, refl, sym, ap, subst, ◌∙◌, arith}
use Rattle.std.specs.List.{AllByRecursion}
use Rattle.client_call.specs.declared.call.Call.{Call}
use Rattle.client_call.specs.declared.call.Going.{Going}
use Rattle.client_node.specs.declared.client.Client.{Client as AClient}
use Rattle.client_node.specs.declared.phase.Phase.{Phase}
use Rattle.client_node.specs.Phases.{lasting_of}
use Rattle.core_world.specs.declared.any_node.AnyNode.{AnyNode}
use Rattle.core_world.specs.declared.any_node.AnyNode.TheVariants as any
use Rattle.file_plan.specs.declared.block_call.BlockAnswer.{BlockAnswer}
use Rattle.file_plan.specs.declared.block_call.BlockAnswer.TheVariants.{Changed, Got, Synced, Put as Written}
use Rattle.file_plan.specs.declared.block_call.BlockCall.{BlockCall}
use Rattle.file_plan.specs.declared.block_call.BlockCall.TheVariants.{Get, Put, PutAt, Sync}
use Rattle.headline.specs.Calls.{Acts, DoesServe, EventStretch, IsBegun, IsCrash, Opens, answered_so, open_in, told}
use Rattle.headline.specs.Calls.Acts.{AtOnce, Begins, Falls, GoesOn, Loses, Passes, Rests, Returns, Stops}
use Rattle.headline.specs.Calls.EventStretch.{Awaits, Concludes, Follows}
use Rattle.headline.specs.Moments.{moment, node_in, node_named}
use Rattle.node_base.specs.Setups.{IsSetup}
use Rattle.run_answers.proofs.once_law.Runs.{node_known}
use Rattle.run_laws.proofs.world_law.Places.{behind}
use Rattle.run_laws.proofs.world_reads.TurnRun.{moment_cluster}
use Rattle.token_client.specs.declared.held.Held.{Held}
use Rattle.token_protocol.specs.Basics.{In}
use Rattle.version_model.specs.declared.act.Act.{Act}
use Rattle.version_model.specs.declared.act.Act.TheVariants as act
use Rattle.version_model.specs.declared.answer.Answer.{Answer}
use Rattle.version_model.specs.declared.answer.Answer.TheVariants as answer
use Rattle.version_model.specs.declared.work.Work.{Work}
use Rattle.wire_msg.specs.declared.packet.Do.{Do}
use Rattle.world_base.specs.Cluster.{cluster_of, place_of}
use Rattle.world_base.specs.declared.cluster.Cluster.{Cluster}
use Rattle.world_base.specs.declared.estate.Estate.{Estate}
use Rattle.xfs_base.proofs.Alls.{all_append}
use Rattle.xfs_base.specs.declared.block.BlockId.{BlockId}
use Rattle.xfs_base.specs.declared.node.NodeId.{NodeId}
use Rattle.xfs_base.specs.declared.node.NodeId.TheVariants.{Client}
use Rattle.xfs_base.specs.Logs.{WritesLog}

-- it falls by this item, which begins
pub record Fallen (p : Phase) (what : Do) : Type 0 where
  pub serves : DoesServe p
  pub number : ℕ
  pub wanted : Option Work
  pub begins : IsBegun p what number wanted
  pub crash : IsCrash wanted

module _ (client : ℕ) (p : Phase) (what : Do) (q : Phase) where
  -- an act of a client of this number, which was in one phase and is in the other
  abbrev pub IsIts : Act → Type 0
  IsIts (act.Wrote c block value) = c ≡ client
  IsIts (act.Read c block ver value) = c ≡ client
  IsIts (act.Synced c) = c ≡ client
  IsIts (act.Fell c flight falls) = (c ≡ client) × Fallen p what
  IsIts (act.Back c chain) = (c ≡ client) × Opens p × DoesServe q
  IsIts (act.Dropped seg) = ⊥
  IsIts _ = Unit {0}

  abbrev AllIts : List Act → Type 0
  AllIts acts = AllByRecursion IsIts acts

  answered_its : (node : NodeId) (item : Option ℕ) (a : Answer) → AllIts (answered_so node item a)
  answered_its node None a = tt
  answered_its node (Some item) a = (tt, tt)

  told_its : (step : BlockCall) (a : BlockAnswer) → AllIts (told client step a)
  told_its (Get block) (Got ver value) = (refl, tt)
  told_its (Get block) (Written ver) = tt
  told_its (Get block) Changed = tt
  told_its (Get block) Synced = tt
  told_its (Put block value) (Got ver v) = tt
  told_its (Put block value) (Written ver) = (refl, tt)
  told_its (Put block value) Changed = tt
  told_its (Put block value) Synced = tt
  told_its (PutAt block named value) (Got ver v) = tt
  told_its (PutAt block named value) (Written ver) = (refl, tt)
  told_its (PutAt block named value) Changed = tt
  told_its (PutAt block named value) Synced = tt
  told_its Sync (Got ver v) = tt
  told_its Sync (Written ver) = tt
  told_its Sync Changed = tt
  told_its Sync Synced = (refl, tt)

  stretch_its : {item : Option ℕ} {now : BlockId → Held} {going : Going} {acts : List Act} {after : Option Call} → EventStretch client item now going acts after
      → AllIts acts
  stretch_its (Awaits plan step) = tt
  stretch_its (Follows {call = call} {acts = rest} a fits since more) = all_append IsIts (told client call.step a) rest (told_its call.step a) (stretch_its more)
  stretch_its {item = item} (Concludes a) = answered_its (Client client) item a

  cut_its : (o : Option ℕ) (a : Answer) (number : ℕ) (b : Answer) → AllIts (answered_so (Client client) o a ++ act.Answered (Client client) number b ∷ [])
  cut_its o a number b =
      all_append IsIts (answered_so (Client client) o a) (act.Answered (Client client) number b ∷ []) (answered_its (Client client) o a) (tt, tt)

  pub acts_its : (acts : List Act) → Acts client p what acts q → AllIts acts
  acts_its acts (Rests none after) = tt
  acts_its acts (Passes number wanted serves begun free none calls items) = (tt, tt)
  acts_its acts (AtOnce number wanted a refuses begun calls items) = (tt, tt)
  acts_its acts (GoesOn call is stays drains more) = stretch_its more
  acts_its acts (Begins number wanted going serves begun free made stays drains more) = stretch_its more
  acts_its acts (Loses name none after) = answered_its (Client client) (open_in p) (answer.Lost name)
  acts_its acts (Falls number wanted flight falls serves begun crash fallen) = (
    (refl, record { serves = serves; number = number; wanted = wanted; begins = begun; crash = crash }),
    cut_its (open_in p) answer.Cut number answer.Done,
  )
  acts_its acts (Stops number wanted opens begun crash fallen) = cut_its (open_in p) answer.Cut number answer.Done
  acts_its acts (Returns chain opens serves none after) = ((refl, opens, serves), answered_its (Client client) (open_in p) answer.Done)

pub all_of : (P : Act → Type 0) (acts : List Act) → AllByRecursion P acts → (a : Act) → In a acts → P a
all_of P [] all a fact = absurd fact
all_of P (x ∷ acts) all a (inl same) = subst P (sym same) all.0
all_of P (x ∷ acts) all a (inr fact) = all_of P acts all.1 a fact

-- ---- the clients of a run

module _ (e : Estate AnyNode) (setup : IsSetup e.script.setup) where
  has_place : (o : Option ℕ) (nodes : List AnyNode) (x : AnyNode) → node_in nodes o ≡ Some x → (p : ℕ) × (o ≡ Some p)
  has_place None nodes x fact = absurd cc
  has_place (Some p) nodes x fact = (p, refl)

  -- one that the world has under a name has that number, which is that of a client of the run
  module _ (count : ℕ) (name : NodeId) (c : AClient) (there : node_named (moment e count) name ≡ Some (any.Client c)) where
    pub number_is : Client (lasting_of c.phase).number ≡ name
    number_is = (node_known e count name (any.Client c) there).named

    pub number_within : (0 < (lasting_of c.phase).number) × ((lasting_of c.phase).number ≤ e.script.setup.clients)
    number_within =
        let p = has_place (place_of (moment e count).cluster name) (moment e count).nodes (any.Client c) there in
        let at : place_of (cluster_of e.script.setup) (Client (lasting_of c.phase).number) ≡ Some p.0 =
        ap (λ (k : Cluster). place_of k (Client (lasting_of c.phase).number)) (sym (moment_cluster e count))
        ∙ (ap (place_of (moment e count).cluster) number_is ∙ p.1) in
        let b = behind 0 e.script.setup.clients (lasting_of c.phase).number p.0 at in
        (b.some, b.within)

    pub number_writes : WritesLog (Client (lasting_of c.phase).number)
    number_writes = (let w = number_within in let few = setup.clients.1 in let some = w.0 in let within = w.1 in (omega (arith, some), omega (arith, few, within)))
