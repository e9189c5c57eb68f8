-- What applications called and were replied, cell by cell, and of the run that the cells make.
use Rattle.std.proofs.Common.{◌≡◌, refl, sym, ap, subst, ◌∙◌, ℕ, ◌+◌, ◌<◌, Bool, true, nat_lt, List, [], ◌∷◌, ◌++◌, length, Some, inl, inr, arith, length-append}
use Rattle.std.specs.Prelude.{slice_get}
use Rattle.std.proofs.lemmas.Bool.Decides.{nat_tests}
use Rattle.std.proofs.lemmas.Option.{slice_get_within}
use Rattle.script_text.specs.declared.script.Script.{Script}
use Rattle.version_model.specs.declared.work.Work.{Work}
use Rattle.wire_msg.specs.declared.packet.Do.{Do}
use Rattle.wire_msg.specs.NodeStep.{NodeStep}
use Rattle.xfs_base.specs.declared.node.NodeId.{NodeId}
use Rattle.xfs_base.specs.declared.setup.Setup.{Setup}
use Rattle.world_base.specs.declared.estate.Estate.{Estate}
use Rattle.world_base.specs.declared.cluster.Cluster.{Cluster}
use Rattle.world_base.specs.Cluster.{cluster_of, node_at}
use Rattle.world_base.specs.Dues.{dues_of}
use Rattle.world_base.specs.Items.{items_of}
use Rattle.world_base.specs.NextWorld.{first_node}
use Rattle.world_base.proofs.Dues.{due_for_each}
use Rattle.journals.specs.declared.moment.Moment.{Moment}
use Rattle.journals.specs.Journals.{acts_in, begins, whats}
use Rattle.journals.specs.Merging.{whats_of}
use Rattle.journals.proofs.Gets.{get_end, get_front, get_snoc, has, one_there}
use Rattle.live_links.specs.Answered.{answers_by}
use Rattle.live_links.specs.Facts.{dues_at, first_at, name_at}
use Rattle.live_run.specs.Live.{EndsSo, IsFront, IsFull, IsLive}
use Rattle.live_run.proofs.Counts.{begun_is}
use Rattle.mounts.specs.declared.reply.Reply.{Reply}
use Rattle.mounts.specs.Mounted.{AreCalled, IsMounted, client_at}
use Rattle.mounts.specs.Replies.{AreFirst, AreSaid, replied_at, replies_of}

-- the first nodes are the clients
pub client_there : (c : Cluster) (p : ℕ) → p < c.clients → node_at c p ≡ client_at p
client_there c p below =
    let test : nat_lt p c.clients ≡ true = grind (arith, nat_tests) in
    rw test refl

module _ {N : Type 0} (step : N → Do → NodeStep N) (first : NodeId → Setup → List Work → N) (script : Script) where
  -- nothing is said yet
  pub said_none : (js : List (List Moment)) (calls : List (List ℕ)) (replies : List (List Reply)) → calls ≡ [] → replies ≡ [] → AreSaid step first script js calls replies
  said_none js calls replies none nothing =
      rw (none, nothing) (record {
        count = refl;
        called = λ p j cs a at. absurd (cc);
        replied = λ p j rs a at. absurd (cc);
      })

  -- one application more says what it called and was replied
  pub said_more : (js js' : List (List Moment)) (calls calls' : List (List ℕ)) (replies replies' : List (List Reply)) (j : List Moment) (cs : List ℕ) (rs : List Reply) (place : ℕ)
      → AreSaid step first script js calls replies → length replies ≡ length js → place ≡ length js
      → js' ≡ js ++ j ∷ [] → calls' ≡ calls ++ cs ∷ [] → replies' ≡ replies ++ rs ∷ []
      → AreFirst script place j cs → rs ≡ replied_at step first script place j → AreSaid step first script js' calls' replies'
  said_more js js' calls calls' replies replies' j cs rs place all level at more called replied called_are replied_are = record {
    count = ap (λ (xs : List (List ℕ)). length xs) called ∙ length-append calls (cs ∷ []) ∙ ap (λ n. n + 1) all.count ∙ sym (ap (λ (xs : List (List Reply)). length xs) replied ∙ length-append replies (rs ∷ []));
    called = λ p k ds got_j got. elim (get_snoc calls cs ds p (subst (λ (xs : List (List ℕ)). slice_get xs p ≡ Some ds) called got)) [
      | inl before ↦
          let within = slice_get_within calls p ds before in
          let count = all.count in
          let old = has js p (omega arith) in
          let same : old.0 ≡ k = one_there (js ++ j ∷ []) p old.0 k (get_front js j old.0 p old.1) (subst (λ (xs : List (List Moment)). slice_get xs p ≡ Some k) more got_j) in
          subst (λ (x : List Moment). AreFirst script p x ds) same (all.called p old.0 ds old.1 before)
      | inr here ↦
          let same : place ≡ p = at ∙ sym level ∙ sym all.count ∙ sym here.0 in
          let there : slice_get (js ++ j ∷ []) p ≡ Some j = get_end js j p (here.0 ∙ all.count ∙ level) in
          let is : j ≡ k = one_there (js ++ j ∷ []) p j k there (subst (λ (xs : List (List Moment)). slice_get xs p ≡ Some k) more got_j) in
          subst (λ (x : List ℕ). AreFirst script p k x) here.1
          (subst (λ (x : List Moment). AreFirst script p x cs) is (subst (λ (q : ℕ). AreFirst script q j cs) same called_are))
    ];
    replied = λ p k ss got_j got. elim (get_snoc replies rs ss p (subst (λ (xs : List (List Reply)). slice_get xs p ≡ Some ss) replied got)) [
      | inl before ↦
          let within = slice_get_within replies p ss before in
          let old = has js p (omega arith) in
          let same : old.0 ≡ k = one_there (js ++ j ∷ []) p old.0 k (get_front js j old.0 p old.1) (subst (λ (xs : List (List Moment)). slice_get xs p ≡ Some k) more got_j) in
          subst (λ (x : List Moment). ss ≡ replied_at step first script p x) same (all.replied p old.0 ss old.1 before)
      | inr here ↦
          let same : place ≡ p = at ∙ sym level ∙ sym here.0 in
          let there : slice_get (js ++ j ∷ []) p ≡ Some j = get_end js j p (here.0 ∙ level) in
          let is : j ≡ k = one_there (js ++ j ∷ []) p j k there (subst (λ (xs : List (List Moment)). slice_get xs p ≡ Some k) more got_j) in
          sym here.1 ∙ replied_are ∙ ap (λ (q : ℕ). replied_at step first script q j) same ∙ ap (λ (x : List Moment). replied_at step first script p x) is
    ];
  }

  module _ (full : Bool) (e : Estate N) (live : IsLive step first full e) (js all : List (List Moment)) (calls : List (List ℕ)) (replies : List (List Reply)) (same : e.script ≡ script)
      (said : AreSaid step first script js calls replies) (front : IsFront js all)
      (each : (p : ℕ) (j : List Moment) → slice_get all p ≡ Some j → whats_of (node_at (cluster_of script.setup) p) e.events ≡ whats j)
      (clients : length replies ≡ script.setup.clients) (level : length js ≡ length replies) where
    name_is : (p : ℕ) → p < length replies → name_at script p ≡ client_at p
    name_is p below = client_there (cluster_of script.setup) p (omega arith)

    -- in a full run each item of a node is begun
    all_begun : full ≡ true → (node : NodeId) → begins (whats_of node e.events) ≡ length (items_of script.lines node)
    all_begun is node =
        let ended : IsFull step first e = subst (λ (b : Bool). EndsSo step first b e) is live.ends in
        sym (begun_is node e.events) ∙ ended.complete node ∙ ap (λ (s : Script). length (items_of s.lines node)) same

    called_are : (p : ℕ) (cs : List ℕ) → slice_get calls p ≡ Some cs → AreCalled full script e.events (client_at p) cs
    called_are p cs at =
        let within = slice_get_within calls p cs at in
        let count = said.count in
        let j = has js p (omega arith) in
        let f = said.called p j.0 cs j.1 at in
        let name = name_is p (omega arith) in
        let happened : whats_of (name_at script p) e.events ≡ whats j.0 = each p j.0 (front p j.0 j.1) in
        let dues : length (dues_at script p) ≡ length (items_of script.lines (client_at p)) =
        ap (λ (n : NodeId). length (dues_of script.lines n)) name ∙ due_for_each script.lines (client_at p)
        in
        let begun : begins (whats_of (client_at p) e.events) ≡ begins (whats j.0) = ap (λ (n : NodeId). begins (whats_of n e.events)) (sym name) ∙ ap begins happened in
        let most = f.most in
        let heard = f.begun in
        record {
          in_order = f.in_order;
          most = omega arith;
          begun = omega arith;
          all = λ is. let whole = all_begun is (client_at p) in omega arith;
        }

    replied_are : (p : ℕ) (rs : List Reply) → slice_get replies p ≡ Some rs
        → rs ≡ replies_of (answers_by (client_at p) (acts_in step (first_node first script (client_at p)) (whats_of (client_at p) e.events)))
    replied_are p rs at =
        let within = slice_get_within replies p rs at in
        let j = has js p (omega arith) in
        let name = name_is p within in
        let happened : whats_of (name_at script p) e.events ≡ whats j.0 = each p j.0 (front p j.0 j.1) in
        said.replied p j.0 rs j.1 at
        ∙ ap (λ ds. replies_of (answers_by (name_at script p) (acts_in step (first_at first script p) ds))) (sym happened)
        ∙ ap (λ (n : NodeId). replies_of (answers_by n (acts_in step (first_node first script n) (whats_of n e.events)))) name

    pub is_mounted : IsMounted step first full e calls replies
    is_mounted = record {
      calls_count = said.count ∙ clients ∙ ap (λ (s : Script). s.setup.clients) (sym same);
      replies_count = clients ∙ ap (λ (s : Script). s.setup.clients) (sym same);
      called = λ p cs at. subst (λ (s : Script). AreCalled full s e.events (client_at p) cs) (sym same) (called_are p cs at);
      replied = λ p rs at.
          subst (λ (s : Script). rs ≡ replies_of (answers_by (client_at p) (acts_in step (first_node first s (client_at p)) (whats_of (client_at p) e.events)))) (sym same)
          (replied_are p rs at);
    }
