-- Line by line from one drained state to the next, in each of which every client asks for its call alone: what a line leads to by the law of lines is what the induction
-- over the script asks of it.
use Rattle.std.proofs.Common.{true≢false, ◌≡◌, ◌≤◌, ◌⊎◌, inl, inr, ℕ, suc, ◌+◌, Bool, true, false, cond, List, [], ◌∷◌, ◌++◌, length, length-append, Some, slice_get, refl, sym, ap, subst, ◌∙◌, arith}
use Rattle.std.specs.List.{list_all}
use Rattle.std.proofs.lemmas.Bool.{and_parts}
use Rattle.std.proofs.lemmas.Bool.Decides.{nat_tests}
use Rattle.std.proofs.lemmas.List.Folds.{list_all-append}
use Rattle.std.proofs.lemmas.List.Sums.{count_by-le-length}
use Rattle.std.proofs.lemmas.List.{length-map}
use Rattle.core_world.specs.AnyNode.{any_start, any_step}
use Rattle.core_world.specs.declared.any_node.AnyNode.{AnyNode}
use Rattle.script_text.specs.declared.script.Line.{Line}
use Rattle.script_text.specs.declared.script.Script.{Script}
use Rattle.version_model.specs.declared.work.Work.{Work}
use Rattle.world_base.specs.Items.{actor_of, is_for, items_of, works_of}
use Rattle.xfs_base.proofs.NodeOrder.{same_node_itself}
use Rattle.xfs_base.specs.declared.node.NodeId.{NodeId}
use Rattle.xfs_base.specs.declared.node.NodeId.TheVariants.{Client}
use Rattle.xfs_base.specs.Limits.{max_lines}
use Rattle.xfs_base.specs.Nodes.{same_node}
use Rattle.quiet_flow.specs.Flow.{Stage}
use Rattle.quiet_law.proofs.Starting.{start_is_drained}
use Rattle.quiet_nodes.proofs.Starts.{starts_as}
use Rattle.quiet_nodes.specs.Start.{start_scene}
use Rattle.quiet_law.specs.Drained.{Drained}
use Rattle.quiet_law.specs.Lines.{Ends, EndsAfterRound, IsNext, Stands}
use Rattle.quiet_nodes.proofs.Blind.{any_blind}
use Rattle.quiet_nodes.specs.Scene.{Scene}
use Rattle.quiet_script.proofs.Answered.{item_there, items_counted, items_more, items_split}
use Rattle.quiet_script.proofs.QuietWorks.{each_quiet}
use Rattle.quiet_script.proofs.Induction.{script_answers}
use Rattle.quiet_script.specs.Lines.{EndsLater, EndsSoon, LeadsOn}
use Rattle.quiet_script.specs.Quiet.{IsOrderly, is_client, is_in_range}
use Rattle.headline.specs.Bounds.{IsQuiet, is_quiet, most_deliveries}
use Rattle.quiet_run.proofs.Asking.{AllAsk, asks_later, asks_then, in_order, start_asks}
use Rattle.quiet_run.specs.Runs.{EachLineLeadsOn, QuietScriptsAreAnswered}

-- the steps that lines take, two each
abbrev pub steps_of : List Line → ℕ
steps_of [] = 0
steps_of (line ∷ lines) = suc (suc (steps_of lines))

-- what is so of all lines is so of this one
pub of_line : (p : Line → Bool) (played rest : List Line) (line : Line) → list_all p (played ++ line ∷ rest) ≡ true → p line ≡ true
of_line p played rest line all =
    let both = and_parts (list_all p played) (list_all p (line ∷ rest)) (sym (list_all-append p played (line ∷ rest)) ∙ all) in
    (and_parts (p line) (list_all p rest) both.1).0

module _ (script : Script) (orderly : IsOrderly script) (quiet : IsQuiet script) where
  abbrev its_works : NodeId → List Work
  its_works node = items_of script.lines node

  -- these lines are played: the state is drained, two steps a line, and so many items of each client are begun
  pub record Between (played : List Line) (t : Stage AnyNode) : Type 0 where
    pub scene : Scene
    pub stands : Stands script.setup its_works scene t
    pub drained : Drained script.setup its_works (steps_of played) scene
    pub begun : (c : ℕ) → (scene.client c).begun ≡ length (items_of played (Client c))
    pub asks : AllAsk script.setup its_works scene

  few_items : (c : ℕ) → length (its_works (Client c)) ≤ max_lines
  few_items c =
      let count = items_counted script.lines (Client c) in
      let most = count_by-le-length (is_for (Client c)) (works_of script.lines) in
      let long = length-map script.lines (λ (line : Line). line.work) in
      let few = orderly.few in
      omega arith

  module _ (played rest : List Line) (line : Line) (t : Stage AnyNode) (is : script.lines ≡ played ++ line ∷ rest) (b : Between played t) where
    two_each : (lines : List Line) → steps_of lines ≡ length lines + length lines
    two_each [] = refl
    two_each (l ∷ lines) = (let rest = two_each lines in omega arith)

    short : length played ≤ 19999
    short =
        let long : length script.lines ≡ length (played ++ line ∷ rest) = ap length is in
        let both = length-append played (line ∷ rest) in
        let few = orderly.few in
        omega arith

    quiet_line : is_quiet line.work ≡ true
    quiet_line = of_line (λ (l : Line). is_quiet l.work) played rest line (ap (list_all (λ (l : Line). is_quiet l.work)) (sym is) ∙ quiet)

    in_range : is_in_range script.setup line.work ≡ true
    in_range = of_line (λ (l : Line). is_in_range script.setup l.work) played rest line (ap (list_all (λ (l : Line). is_in_range script.setup l.work)) (sym is) ∙ orderly.each)

    module _ (c : ℕ) (client : is_client script.setup c ≡ true) (actor : actor_of line.work ≡ Some (Client c)) where
      its_number : (1 ≤ c) × (c ≤ script.setup.clients)
      its_number = (grind (arith, nat_tests), grind (arith, nat_tests))

      split : its_works (Client c) ≡ items_of played (Client c) ++ line.work ∷ items_of rest (Client c)
      split = ap (λ lines. items_of lines (Client c)) is ∙ items_split played rest line (Client c) actor

      is_next : IsNext script.setup its_works b.scene c line.work
      is_next = record {
        client = its_number;
        few = few_items c;
        next =
            ap (λ ws. slice_get ws (b.scene.client c).begun) split
            ∙ ap (slice_get (items_of played (Client c) ++ line.work ∷ items_of rest (Client c))) (b.begun c)
            ∙ item_there (items_of played (Client c)) line.work (items_of rest (Client c));
      }

      -- the item is the next one of the client, by its number
      item_is : (b.scene.client c).begun + 1 ≡ suc (length (items_of played (Client c)))
      item_is = let same = b.begun c in omega arith

      between_then : (scene : Scene) (end : Stage AnyNode) → Stands script.setup its_works scene end
          → Drained script.setup its_works (suc (suc (steps_of played))) scene → (scene.client c).begun ≡ (b.scene.client c).begun + 1
          → ((d : ℕ) → (d ≡ c → ⊥) → (scene.client d).begun ≡ (b.scene.client d).begun) → AllAsk script.setup its_works scene → Between (played ++ line ∷ []) end
      between_then scene end stands drained one others asks = record {
        scene = scene;
        stands = stands;
        drained = subst (λ k. Drained script.setup its_works k scene) (longer played) drained;
        begun = λ d. begun_then d;
        asks = asks;
      }
        where
          longer : (lines : List Line) → suc (suc (steps_of lines)) ≡ steps_of (lines ++ line ∷ [])
          longer [] = refl
          longer (l ∷ lines) = ap (λ n. suc (suc n)) (longer lines)

          begun_then : (d : ℕ) → (scene.client d).begun ≡ length (items_of (played ++ line ∷ []) (Client d))
          begun_then d =
              elim (same_node (Client c) (Client d)) as
              (λ s. same_node (Client c) (Client d) ≡ s → (scene.client d).begun ≡ length (items_of (played ++ line ∷ []) (Client d))) [
                | true ↦ λ same. own same
                | false ↦ λ differs. another differs
              ] refl
            where
              own : same_node (Client c) (Client d) ≡ true → (scene.client d).begun ≡ length (items_of (played ++ line ∷ []) (Client d))
              own same =
                  let is_c : d ≡ c = grind (arith, nat_tests) in
                  let last = items_more played line (Client c) (Client d) actor ∙ ap (λ s. length (items_of played (Client d)) + cond s 1 0) same in
                  ap (λ n. (scene.client n).begun) is_c ∙ one ∙ ap (λ n. (b.scene.client n).begun + 1) (sym is_c) ∙ ap (λ n. n + 1) (b.begun d) ∙ sym last

              another : same_node (Client c) (Client d) ≡ false → (scene.client d).begun ≡ length (items_of (played ++ line ∷ []) (Client d))
              another differs =
                  let last = items_more played line (Client c) (Client d) actor ∙ ap (λ s. length (items_of played (Client d)) + cond s 1 0) differs in
                  others d (λ same. apart same) ∙ b.begun d ∙ no_more (length (items_of played (Client d))) ∙ sym last
                where
                  apart : d ≡ c → ⊥
                  apart same = absurd (true≢false (sym (ap (λ n. same_node (Client c) (Client n)) same ∙ same_node_itself (Client c)) ∙ differs))

                  no_more : (n : ℕ) → n ≡ n + 0
                  no_more n = omega arith

      abbrev item : ℕ
      item = (b.scene.client c).begun + 1

      soon : Ends script.setup its_works (suc (steps_of played)) most_deliveries b.scene t c item
          → EndsSoon any_step script.setup most_deliveries t (Client c) (suc (length (items_of played (Client c)))) (Between (played ++ line ∷ []))
      soon e =
          let a = e.answered in
          subst (λ item. EndsSoon any_step script.setup most_deliveries t (Client c) item (Between (played ++ line ∷ []))) item_is (record {
            end = e.end;
            deliveries = e.deliveries;
            few = e.few;
            drains = e.drains;
            settled = a.stands.settled;
            answers_it = record { answer = a.answer; of_call = a.of_call; before = a.before; after = a.after; acted = a.acted; none_before = a.none_before; none_after = a.none_after };
            so_then = between_then e.scene e.end a.stands a.drained a.begun a.others
                (asks_then script.setup its_works (suc (steps_of played)) b.scene t c item b.stands its_number b.asks most_deliveries e);
          })

      later : EndsAfterRound script.setup its_works (suc (steps_of played)) 63 65 b.scene t c item
          → EndsLater any_step script.setup 63 65 t (Client c) (suc (length (items_of played (Client c)))) (Between (played ++ line ∷ []))
      later e =
          let a = e.answered in
          subst (λ item. EndsLater any_step script.setup 63 65 t (Client c) item (Between (played ++ line ∷ []))) item_is (record {
            mid = e.mid;
            first = e.first;
            first_few = e.first_few;
            first_drains = e.first_drains;
            waits = let one = e.waits in omega arith;
            end = e.end;
            second = e.second;
            second_few = e.second_few;
            second_drains = e.second_drains;
            settled = a.stands.settled;
            answers_it = record { answer = a.answer; of_call = a.of_call; before = a.before; after = a.after; acted = a.acted; none_before = a.none_before; none_after = a.none_after };
            so_then = between_then e.scene e.end a.stands a.drained a.begun a.others
                (asks_later script.setup its_works (suc (steps_of played)) b.scene t c item b.stands its_number b.asks 63 65 e);
          })

      leads : EachLineLeadsOn → LeadsOn any_step script Between played line t
      leads law = record {
        node = Client c;
        actor = actor;
        has = its_number;
        ends = by_case (law script.setup its_works orderly.setup (steps_of played) b.scene t c line.work low b.drained b.stands is_next
            (in_order script.setup its_works b.scene b.asks) quiet_line in_range actor);
      }
        where
          low : suc (suc (steps_of played)) ≤ 40000
          low = let s = short in let twice = two_each played in omega arith

          by_case : Ends script.setup its_works (suc (steps_of played)) most_deliveries b.scene t c item
              ⊎ EndsAfterRound script.setup its_works (suc (steps_of played)) 63 65 b.scene t c item
              → EndsSoon any_step script.setup most_deliveries t (Client c) (suc (length (items_of played (Client c)))) (Between (played ++ line ∷ []))
              ⊎ EndsLater any_step script.setup 63 65 t (Client c) (suc (length (items_of played (Client c)))) (Between (played ++ line ∷ []))
          by_case (inl e) = inl (soon e)
          by_case (inr e) = inr (later e)

    -- whose item a quiet line is
    pub record IsClients (w : Work) : Type 0 where
      pub number : ℕ
      pub there : is_client script.setup number ≡ true
      pub actor : actor_of w ≡ Some (Client number)

    whose : (w : Work) → is_quiet w ≡ true → is_in_range script.setup w ≡ true → IsClients w
    whose =
        each_quiet (λ w. is_in_range script.setup w ≡ true → IsClients w)
        (λ c b value range. record { number = c; there = (and_parts (is_client script.setup c) _ range).0; actor = refl })
        (λ c b range. record { number = c; there = (and_parts (is_client script.setup c) _ range).0; actor = refl })
        (λ c range. record { number = c; there = range; actor = refl })

    line_leads : EachLineLeadsOn → LeadsOn any_step script Between played line t
    line_leads law = let w = whose line.work quiet_line in_range in leads w.number w.there w.actor law

-- so the run of each script is answered
pub scripts_are_answered : EachLineLeadsOn → QuietScriptsAreAnswered
scripts_are_answered law script orderly quiet =
    script_answers any_step any_start any_blind script orderly.setup orderly.few (Between script orderly quiet)
    (λ played rest line t is b settled. line_leads script orderly quiet played rest line t is b law) (record {
      scene = start_scene;
      stands = record { placed = λ name has. starts_as script.setup works_of_it orderly.setup.managers.0 name; settled = refl };
      drained = start_is_drained script.setup works_of_it;
      begun = λ c. refl;
      asks = start_asks script.setup works_of_it orderly.setup.managers.0;
    })
  where
    works_of_it : NodeId → List Work
    works_of_it node = items_of script.lines node
