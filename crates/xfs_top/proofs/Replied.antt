-- What applications were replied are the acts of the run that answer their clients' items.
use Rattle.std.proofs.Common.{◌≡◌, ℕ, ◌<◌, false, cond, suc, List, [], ◌∷◌, ◌++◌, take, Option, Some, None, refl, sym, ap, subst, ◌∙◌, inl, inr, arith}
use Rattle.std.specs.Prelude.{IfSome, slice_get}
use Rattle.std.specs.List.{fold}
use Rattle.script_text.specs.declared.script.Script.{Script}
use Rattle.std.proofs.lemmas.Option.{slice_get_within}
use Rattle.core_world.specs.AnyNode.{any_start, any_step}
use Rattle.core_world.specs.declared.any_node.AnyNode.{AnyNode}
use Rattle.live_links.specs.Answered.{answers_by, is_answer_by}
use Rattle.journals.proofs.Starts.{start_cluster, start_node}
use Rattle.journals.specs.Journals.{acts_in}
use Rattle.journals.specs.Merging.{whats_of}
use Rattle.mounts.specs.declared.reply.Reply.{Reply}
use Rattle.mounts.specs.Mounted.{IsMounted, client_at}
use Rattle.mounts.specs.Replies.{replies_of}
use Rattle.mounts.proofs.Acted.{NobodyElse, added, answered_in}
use Rattle.mounts.proofs.Said.{client_there}
use Rattle.headline.specs.Items.{ItemsAnsweredOnce}
use Rattle.token_protocol.specs.Basics.{In}
use Rattle.top_call.specs.declared.command.Command.{Command}
use Rattle.top_call.specs.declared.command.Command.TheVariants.{Audit, Big, Boards, Disks, Gen, Live, Mount, Run}
use Rattle.top_call.specs.Claim.{IsLiveRun, IsRunBy, is_full}
use Rattle.top_call.specs.Mounts.{LeavesMounts, MountsOf}
use Rattle.version_model.specs.declared.act.Act.{Act}
use Rattle.version_model.specs.declared.act.Act.TheVariants as act
use Rattle.version_model.specs.declared.answer.Answer.{Answer}
use Rattle.world_base.specs.declared.estate.Estate.{Estate}
use Rattle.world_base.specs.declared.event.Event.{Event}
use Rattle.world_base.specs.declared.world.World.{World}
use Rattle.world_base.specs.Cluster.{cluster_of, node_at, place_of}
use Rattle.world_base.specs.Events.{node_of}
use Rattle.world_base.specs.NextWorld.{first_node, next_world, start_world}
use Rattle.world_base.proofs.Places.{node_stands}
use Rattle.xfs_base.specs.declared.node.NodeId.{NodeId}
use Rattle.xfs_base.specs.Nodes.{same_node}
use Rattle.xfs_top.specs.Headline.{HeadlineOf}
use Rattle.xfs_top.specs.Replies.{AreAnswers}

-- an act of another node answers no item of this one, where each answers as itself
not_ours : (node other : NodeId) (x : Act) → same_node other node ≡ false → ((by : NodeId) (item : ℕ) (a : Answer) → act.Answered by item a ≡ x → by ≡ other) → is_answer_by node x ≡ false
not_ours node other (act.Wrote client block value) apart own = refl
not_ours node other (act.Read client block ver value) apart own = refl
not_ours node other (act.Synced client) apart own = refl
not_ours node other (act.Fell client flight falls) apart own = refl
not_ours node other (act.Back client chain) apart own = refl
not_ours node other (act.Lost by seg) apart own = refl
not_ours node other (act.Filed seg) apart own = refl
not_ours node other (act.Dropped seg) apart own = refl
not_ours node other (act.Answered by item a) apart own = ap (λ n. same_node n node) (own by item a refl) ∙ apart

none_ours : (node other : NodeId) (xs : List Act) → same_node other node ≡ false → ((by : NodeId) (item : ℕ) (a : Answer) → In (act.Answered by item a) xs → by ≡ other)
    → answers_by node xs ≡ []
none_ours node other [] apart own = refl
none_ours node other (x ∷ xs) apart own =
    let not_this : is_answer_by node x ≡ false = not_ours node other x apart (λ by item a is. own by item a (inl is)) in
    ap (λ t. cond t (x ∷ answers_by node xs) (answers_by node xs)) not_this ∙ none_ours node other xs apart (λ by item a found. own by item a (inr found))

nobody : (node : NodeId) (w : World AnyNode) (es : List Event)
    → ((k : ℕ) (e : Event) → slice_get es k ≡ Some e → (by : NodeId) (item : ℕ) (a : Answer)
    → In (act.Answered by item a) (added any_step (fold (next_world any_step) w (take k es)) e) → by ≡ node_of e)
    → NobodyElse any_step node w es
nobody node w [] own = tt
nobody node w (e ∷ es) own = (
  λ apart. none_ours node (node_of e) (added any_step w e) apart (own 0 e refl),
  nobody node (next_world any_step w e) es (λ k f at. own (suc k) f at),
)

-- nothing is done before the first event
nothing_yet : (s : Script) → (start_world any_start s).acts ≡ []
unfolding start_world
nothing_yet s = refl

module _ (e : Estate AnyNode) (live : IsLiveRun any_step any_start e) (once : ItemsAnsweredOnce e) where
  answers_are : (p : ℕ) → p < e.script.setup.clients
      → answers_by (client_at p) e.world.acts ≡ answers_by (client_at p) (acts_in any_step (first_node any_start e.script (client_at p)) (whats_of (client_at p) e.events))
  answers_are p below =
      let start = start_world any_start e.script in
      let c = cluster_of e.script.setup in
      let name : node_at c p ≡ client_at p = client_there c p below in
      let place : place_of start.cluster (client_at p) ≡ Some p =
      ap (λ k. place_of k (client_at p)) (start_cluster any_start e.script) ∙ ap (place_of c) (sym name) ∙ node_stands c p (omega arith)
      in
      let at : slice_get start.nodes p ≡ Some (first_node any_start e.script (client_at p)) =
      start_node any_start e.script p (omega arith) ∙ ap (λ n. Some (first_node any_start e.script n)) name
      in
      answered_in any_step (client_at p) p start 0 0 e.events e.world (first_node any_start e.script (client_at p)) place at live.rises live.one_run
      (nobody (client_at p) start e.events (λ k f there by item a found. (once.own k f there by item a found).own))
      ∙ ap (λ xs. answers_by (client_at p) xs ++ answers_by (client_at p) (acts_in any_step (first_node any_start e.script (client_at p)) (whats_of (client_at p) e.events))) (nothing_yet e.script)

  are_answers : (calls : List (List ℕ)) (replies : List (List Reply)) → IsMounted any_step any_start (is_full e) e calls replies → AreAnswers e replies
  are_answers calls replies m = record {
    count = m.replies_count;
    each = λ p rs at.
        let within = slice_get_within replies p rs at in
        let count = m.replies_count in
        m.replied p rs at ∙ ap replies_of (sym (answers_are p (omega arith)));
  }

  left : (called : Option (List (List ℕ))) (replied : Option (List (List Reply))) → LeavesMounts any_step any_start e called replied → IfSome replied (AreAnswers e)
  left called replied l = subst (λ r. IfSome r (AreAnswers e)) (sym l.replies_are) (are_answers l.calls l.replies l.mounted)

none_left : (e : Estate AnyNode) (replied : Option (List (List Reply))) → replied ≡ None → IfSome replied (AreAnswers e)
none_left e replied is = subst (λ r. IfSome r (AreAnswers e)) (sym is) tt

-- where there are none nothing is to be shown
pub none_replied : (o : Option (Estate AnyNode)) (replied : Option (List (List Reply))) → replied ≡ None → IfSome o (λ e. IfSome replied (AreAnswers e))
none_replied None replied is = tt
none_replied (Some e) replied is = none_left e replied is

-- so it is by whichever words
pub replies_are : (command : Option Command) (o : Option (Estate AnyNode)) (called : Option (List (List ℕ))) (replied : Option (List (List Reply)))
    → IfSome o (IsRunBy any_step any_start command) → IfSome o (HeadlineOf command) → MountsOf any_step any_start command o called replied
    → IfSome o (λ e. IfSome replied (AreAnswers e))
replies_are command None called replied run safe m = tt
replies_are None (Some e) called replied run safe m = none_left e replied m.1
replies_are (Some Run) (Some e) called replied run safe m = none_left e replied m.1
replies_are (Some (Live workers)) (Some e) called replied run safe m = none_left e replied m.1
replies_are (Some (Mount workers)) (Some e) called replied run safe m = left e run safe.safe.outside.answered_once called replied m
replies_are (Some (Gen drawn)) (Some e) called replied run safe m = none_left e replied m.1
replies_are (Some (Big drawn)) (Some e) called replied run safe m = none_left e replied m.1
replies_are (Some Audit) (Some e) called replied run safe m = none_left e replied m.1
replies_are (Some Boards) (Some e) called replied run safe m = none_left e replied m.1
replies_are (Some Disks) (Some e) called replied run safe m = none_left e replied m.1
