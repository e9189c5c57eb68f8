-- After an event of a server its shelf on its disk is that of the server, and what happened is still a run.
use Rattle.std.proofs.Common.{◌≡◌, ◌≢◌, ℕ, ◌+◌, ◌-◌, ◌<◌, Bool, true, false, cond, nat_lt, List, Option, Some, None, length, slice_get, slice_set, refl, sym, ap, subst, ◌∙◌, arith}
use Rattle.std.specs.Prelude.{IfSome, is_some}
use Rattle.std.proofs.lemmas.Bool.{cases_eq}
use Rattle.std.proofs.lemmas.Bool.Decides.{nat_tests}
use Rattle.std.proofs.lemmas.Option.{same_Some, slice_get_within}
use Rattle.std.proofs.Common.{inl, inr, ◌⊎◌}
use Rattle.disk_shelf.specs.declared.ask.Ask.{Ask}
use Rattle.disk_shelf.specs.Kept.{Kept}
use Rattle.disk_shelf.specs.MemDisk.{MemState}
use Rattle.fragment_store.specs.ShelfState.{ShelfState}
use Rattle.script_text.specs.declared.script.Script.{Script}
use Rattle.shelf_changes.specs.Changes.{ChangesByOne, shelf_after, shelf_after_one}
use Rattle.shelved_nodes.proofs.Gives.{none_asked}
use Rattle.shelved_nodes.specs.Shelves.{ShelvesChange}
use Rattle.version_model.specs.declared.work.Work.{Work}
use Rattle.wire_msg.specs.declared.packet.Do.{Do}
use Rattle.wire_msg.specs.NodeStep.{NodeStep}
use Rattle.world_base.specs.declared.event.Event.{Event}
use Rattle.world_base.specs.declared.world.World.{World}
use Rattle.world_base.specs.Events.{node_of, what_of}
use Rattle.world_base.specs.NextWorld.{world_happen, next_world, start_world}
use Rattle.world_base.specs.Runs.{MayHappen}
use Rattle.xfs_base.proofs.Booleans.{contrary}
use Rattle.xfs_base.specs.declared.node.NodeId.{NodeId}
use Rattle.xfs_base.specs.declared.node.NodeId.TheVariants as nodes
use Rattle.xfs_base.specs.declared.setup.Setup.{Setup}
use Rattle.disk_play.specs.declared.course.Course.{Course}
use Rattle.disk_play.specs.declared.course.Seat.{Seat}
use Rattle.disk_play.specs.declared.stop.Fate.{Fate}
use Rattle.disk_play.specs.declared.stop.Fate.TheVariants.{Answered, Unanswered, Lost}
use Rattle.disk_play.specs.declared.stop.Stop.{Stop}
use Rattle.disk_play.specs.Courses.{asked_of, course_at, deck_of, disk_after, disks_at, fate_for, player_by, seat_of, seat_with, course_settle, shelf_at, stop_for, took, with_world}
use Rattle.disk_play.specs.Standing.{Follow, Follows, GivesOf, Stands, Took}
use Rattle.disk_play.specs.Disks.{change_at, on_disks}
use Rattle.disk_play.proofs.Places.{get_set_other, get_set_same, length_set, set_changes}
use Rattle.disk_play.proofs.Running.{leads_on, leads_to}
use Rattle.disk_play.proofs.Turning.{next_cluster, others_stay, own_changes}

abbrev counted : Fate → Type 0
counted Lost = ⊥
counted other = Unit {0}

-- ---- seats

-- a node with a seat is the server of that place, and its stop stands there
pub record IsSeat (stops : List Stop) (node : NodeId) (seat : Seat) : Type 0 where
  pub name : node ≡ nodes.Server (seat.place + 1)
  pub stop : slice_get stops seat.place ≡ Some seat.stop

seat_found : (place : ℕ) (o : Option Stop) (seat : Seat) → seat_with place o ≡ Some seat → (place ≡ seat.place) × (o ≡ Some seat.stop)
seat_found place None seat e = contrary (ap is_some e)
seat_found place (Some stop) seat e =
    let same : record { place = place; stop = stop } ≡ seat = same_Some (record { place = place; stop = stop }) seat e in
    (ap (λ (s : Seat). s.place) same, ap (λ (s : Seat). Some s.stop) same)

pub seat_is : (stops : List Stop) (node : NodeId) (seat : Seat) → seat_of stops node ≡ Some seat → IsSeat stops node seat
seat_is stops (nodes.Server n) seat e = by (nat_lt 0 n) refl e
  where
    numbered : (k m : ℕ) → nat_lt 0 k ≡ true → k - 1 ≡ m → k ≡ m + 1
    numbered k m some is = let more : 0 < k = grind (arith, nat_tests) in omega (arith, more, is)

    by : (t : Bool) → nat_lt 0 n ≡ t → cond t (seat_with (n - 1) (slice_get stops (n - 1))) None ≡ Some seat → IsSeat stops (nodes.Server n) seat
    by true some fact =
        let found = seat_found (n - 1) (slice_get stops (n - 1)) seat fact in
        record {
          name = ap nodes.Server (numbered n seat.place some found.0);
          stop = ap (slice_get stops) (sym found.0) ∙ found.1;
        }
    by false some fact = contrary (ap is_some fact)
seat_is stops (nodes.Client n) seat e = contrary (ap is_some e)
seat_is stops (nodes.Manager n) seat e = contrary (ap is_some e)
seat_is stops nodes.Cleaner seat e = contrary (ap is_some e)
seat_is stops nodes.Registry seat e = contrary (ap is_some e)

-- a server of which a stop is known has a seat
pub seated : (stops : List Stop) (place : ℕ) (stop : Stop) → slice_get stops place ≡ Some stop
    → seat_of stops (nodes.Server (place + 1)) ≡ Some (record { place = place; stop = stop })
seated stops place stop fact =
    ap (λ (t : Bool). cond t (seat_with (place + 1 - 1) (slice_get stops (place + 1 - 1))) None) (some place)
    ∙ ap (λ p. seat_with p (slice_get stops p)) (back place) ∙ ap (seat_with place) fact
  where
    some : (k : ℕ) → nat_lt 0 (k + 1) ≡ true
    some k = grind (arith, nat_tests)

    back : (k : ℕ) → k + 1 - 1 ≡ k
    back k = omega arith

server_number : (m n : ℕ) → nodes.Server m ≡ nodes.Server n → m ≡ n
server_number m n e = ap number_of e
  where
    number_of : NodeId → ℕ
    number_of (nodes.Server k) = k
    number_of other = 0

-- ---- what was asked

module _ {N : Type 0} (step : N → Do → NodeStep N) (first : NodeId → Setup → List Work → N) (shelf_of : N → Option ShelfState) (script : Script)
    (changes : (node : N) (what : Do) → ShelvesChange what (shelf_of node) (shelf_of (step node what).node)) where
  abbrev Standing : Course N → List (Kept MemState) → Type 0
  Standing c shelves = Stands step first shelf_of script c shelves

  module _ (c : Course N) (shelves : List (Kept MemState)) (stands : Standing c shelves) (event : Event) (seat : Seat)
      (seat_here : seat_of c.stops (node_of event) ≡ Some seat) where
    abbrev next : World N
    next = next_world step c.player.world event

    seat_so : IsSeat c.stops (node_of event) seat
    seat_so = seat_is c.stops (node_of event) seat seat_here

    -- the call is the one that is seen by this shelf and the one after the event, and makes the latter of the former
    pub record IsAsked (call : Option Ask) (shelf : Kept MemState) : Type 0 where
      pub exact : call ≡ asked_of (what_of event) (Some shelf.state.shelf) (shelf_at shelf_of next (node_of event))
      pub gives : GivesOf (what_of event) shelf.state.shelf (shelf_at shelf_of next (node_of event)) call

    -- the event as its parts, and the world that it made
    module _ (w : World N) (node : NodeId) (what : Do) (is_node : node ≡ node_of event) (is_what : what ≡ what_of event)
        (is_world : w ≡ world_happen step c.player.world node what) where
      pub next_is : w ≡ next
      next_is =
          is_world ∙ ap (λ n. world_happen step c.player.world n what) is_node ∙ ap (λ x. world_happen step c.player.world (node_of event) x) is_what

      -- the call that was found by the shelf at the seat
      pub asked_so : (call : Option Ask) (x shelf : Kept MemState) → slice_get shelves seat.place ≡ Some x → slice_get shelves seat.place ≡ Some shelf
          → call ≡ asked_of what (Some x.state.shelf) (shelf_at shelf_of w node) → GivesOf what x.state.shelf (shelf_at shelf_of w node) call → IsAsked call shelf
      asked_so call x shelf is_x is exact gives =
          let so : IsAsked call x = record {
            exact = exact ∙ ap (λ o. asked_of o (Some x.state.shelf) (shelf_at shelf_of w node)) is_what
                ∙ ap (λ v. asked_of (what_of event) (Some x.state.shelf) (shelf_at shelf_of v node)) next_is
                ∙ ap (λ n. asked_of (what_of event) (Some x.state.shelf) (shelf_at shelf_of next n)) is_node;
            gives = subst (λ n. GivesOf (what_of event) x.state.shelf (shelf_at shelf_of next n) call) is_node
                (subst (λ v. GivesOf (what_of event) x.state.shelf (shelf_at shelf_of v node) call) next_is
                (subst (λ o. GivesOf o x.state.shelf (shelf_at shelf_of w node) call) is_what gives));
          } in
          subst (IsAsked call) (same_Some x shelf (sym is_x ∙ is)) so

    -- there is a shelf at the seat
    pub within : seat.place < length shelves
    within = subst (λ n. seat.place < n) stands.stops (slice_get_within c.stops seat.place seat.stop seat_so.stop)

    pub stop_within : seat.place < length c.stops
    stop_within = slice_get_within c.stops seat.place seat.stop seat_so.stop

    module _ (shelf : Kept MemState) (was : slice_get shelves seat.place ≡ Some shelf) where
      pub follows : Follows shelf (shelf_at shelf_of c.player.world (node_of event))
      follows = subst (λ name. Follows shelf (shelf_at shelf_of c.player.world name)) (sym seat_so.name) (stands.follow.each seat.place shelf was)

      -- the server still keeps a shelf, and it changed by one call at most
      changed : (new : Option ShelfState) → shelf_at shelf_of next (node_of event) ≡ new
          → (s : ShelfState) × (new ≡ Some s) × ChangesByOne (what_of event) shelf.state.shelf s
      changed None fact =
          absurd (subst (λ o. ShelvesChange (what_of event) o None) follows.same
          (subst (λ o. ShelvesChange (what_of event) (shelf_at shelf_of c.player.world (node_of event)) o) fact
          (own_changes step c.player.world event shelf_of changes)))
      changed (Some s) fact = (
        s,
        refl,
        subst (λ o. ShelvesChange (what_of event) o (Some s)) follows.same
            (subst (λ o. ShelvesChange (what_of event) (shelf_at shelf_of c.player.world (node_of event)) o) fact
            (own_changes step c.player.world event shelf_of changes)),
      )

      module _ (call : Option Ask) (asked : IsAsked call shelf) where
        -- the call makes the shelf that the server has then
        pub given : shelf_at shelf_of next (node_of event) ≡ Some (shelf_after_one shelf.state.shelf call)
        given =
            let after = changed (shelf_at shelf_of next (node_of event)) refl in
            after.1 ∙ ap Some (subst (λ o. GivesOf (what_of event) shelf.state.shelf o call) after.1 asked.gives after.2)

        -- and it is another one, where there is a call
        differs : IfSome call (λ ask. shelf_after shelf.state.shelf ask ≢ shelf.state.shelf)
        differs = by call refl
          where
            by : (o : Option Ask) → call ≡ o → IfSome o (λ ask. shelf_after shelf.state.shelf ask ≢ shelf.state.shelf)
            by None fact = tt
            by (Some ask) fact = λ same.
                let now : shelf_at shelf_of next (node_of event) ≡ Some shelf.state.shelf =
                given ∙ ap (λ o. Some (shelf_after_one shelf.state.shelf o)) fact ∙ ap Some same in
                let none : call ≡ None =
                asked.exact ∙ ap (asked_of (what_of event) (Some shelf.state.shelf)) now ∙ none_asked shelf.state.shelf (what_of event) in
                contrary (sym (ap is_some (sym fact ∙ none)))

        -- ---- what then stands

        pub seen : asked_of (what_of event) (shelf_at shelf_of c.player.world (node_of event)) (shelf_at shelf_of next (node_of event)) ≡ call
        seen = ap (λ o. asked_of (what_of event) o (shelf_at shelf_of next (node_of event))) follows.same ∙ sym asked.exact

        module _ (may : MayHappen c.player.world event) (shelves' : List (Kept MemState)) (after : Kept MemState) (is : shelves' ≡ slice_set shelves seat.place after)
            (took_so : Took seat.stop (what_of event) call shelf after) where
          -- all other shelves follow as before, whether the event counts or not
          others : (w : World N) → ((place : ℕ) → place ≢ seat.place
              → shelf_at shelf_of w (nodes.Server (place + 1)) ≡ shelf_at shelf_of c.player.world (nodes.Server (place + 1)))
              → w.cluster ≡ c.player.world.cluster → Follows after (shelf_at shelf_of w (node_of event)) → Follow shelf_of w shelves'
          others w stay cluster mine = record {
            count = ap length is ∙ length_set shelves seat.place after ∙ stands.follow.count ∙ ap (λ k. k.servers) (sym cluster);
            each = λ place other fact. by place other fact (cases_eq place seat.place);
          }
            where
              by : (place : ℕ) (other : Kept MemState) → slice_get shelves' place ≡ Some other → (place ≡ seat.place) ⊎ (place ≢ seat.place)
                  → Follows other (shelf_at shelf_of w (nodes.Server (place + 1)))
              by place other fact (inl same) =
                  let here : other ≡ after =
                  same_Some other after (sym fact ∙ ap (λ p. slice_get shelves' p) same ∙ ap (λ l. slice_get l seat.place) is
                  ∙ get_set_same shelves seat.place after shelf was) in
                  subst (λ x. Follows x (shelf_at shelf_of w (nodes.Server (place + 1)))) (sym here)
                  (subst (λ name. Follows after (shelf_at shelf_of w name)) (seat_so.name ∙ ap (λ p. nodes.Server (p + 1)) (sym same)) mine)
              by place other fact (inr apart) =
                  let there : slice_get shelves place ≡ Some other =
                  sym (get_set_other shelves seat.place after place apart) ∙ ap (λ l. slice_get l place) (sym is) ∙ fact in
                  subst (λ o. Follows other o) (sym (stay place apart)) (stands.follow.each place other there)

          stays_still : (place : ℕ) → place ≢ seat.place
              → shelf_at shelf_of next (nodes.Server (place + 1)) ≡ shelf_at shelf_of c.player.world (nodes.Server (place + 1))
          stays_still place apart =
              others_stay step c.player.world event shelf_of (nodes.Server (place + 1))
              (λ same. apart (omega (arith, server_number (place + 1) (seat.place + 1) (same ∙ seat_so.name))))

          follow_next : fate_for seat.stop call ≢ Lost → Follow shelf_of next shelves'
          follow_next counts =
              others next stays_still (next_cluster step c.player.world event)
              (record { runs = took_so.runs; same = given ∙ ap Some (sym (took_so.there counts)) })

          follow_still : fate_for seat.stop call ≡ Lost → Follow shelf_of c.player.world shelves'
          follow_still lost =
              others c.player.world (λ place apart. refl) refl
              (record { runs = took_so.runs; same = follows.same ∙ ap Some (sym (took_so.lost lost)) })

          abbrev stops' : List Stop
          stops' = slice_set c.stops seat.place (stop_for seat.stop call)

          lengths : length stops' ≡ length shelves'
          lengths =
              length_set c.stops seat.place (stop_for seat.stop call) ∙ stands.stops ∙ sym (ap length is ∙ length_set shelves seat.place after)

          stand_by : (f : Fate) → fate_for seat.stop call ≡ f
              → Standing (record { player = player_by f c.player event next; stops = stops' }) shelves'
          stand_by Answered fact = record {
            run = leads_on step (start_world first script) c.player.events c.player.world event stands.run may;
            stops = lengths;
            follow = follow_next (λ lost. no_fate (sym fact ∙ lost));
          }
            where
              no_fate : Answered ≡ Lost → ⊥
              no_fate e = subst counted e tt
          stand_by Unanswered fact = record {
            run = leads_on step (start_world first script) c.player.events c.player.world event stands.run may;
            stops = lengths;
            follow = follow_next (λ lost. no_fate (sym fact ∙ lost));
          }
            where
              no_fate : Unanswered ≡ Lost → ⊥
              no_fate e = subst counted e tt
          stand_by Lost fact = record { run = stands.run; stops = lengths; follow = follow_still fact }

          pub event_stands : Standing (course_at step shelf_of c seat event) shelves'
          event_stands =
              subst (λ o. Standing (took c seat event next o) shelves') (sym seen) (stand_by (fate_for seat.stop call) refl)

          -- its disk is what the event makes of it, and all others are as they were
          pub disks_so : on_disks shelves' ≡ disks_at step shelf_of (deck_of c shelves) seat event
          disks_so =
              ap on_disks is ∙ set_changes (disk_after seat.stop (what_of event) call) shelves seat.place shelf after was took_so.disk
              ∙ ap (λ o. change_at (disk_after seat.stop (what_of event) o) seat.place (on_disks shelves)) (sym seen)

          abbrev at : World N → List Stop → Course N
          at w stops = record {
            player = record { world = w; events = c.player.events; schedule = c.player.schedule; unanswered = c.player.unanswered };
            stops = stops;
          }

          abbrev turned : Course N
          turned = at next stops'

          -- what is settled is what happens
          pub course_settle_so : course_settle step first script (fate_for seat.stop call) turned event (length c.player.world.sent) (length c.player.world.acts) ≡ course_at step shelf_of c seat event
          course_settle_so = by (fate_for seat.stop call) ∙ ap (took c seat event next) (sym seen)
            where
              by : (f : Fate) → course_settle step first script f turned event (length c.player.world.sent) (length c.player.world.acts) ≡ record {
                player = player_by f c.player event next;
                stops = stops';
              }
              by Answered = refl
              by Unanswered = refl
              by Lost =
                  ap (λ w. with_world turned w) (leads_to step (start_world first script) c.player.events c.player.world stands.run)

          pub settled_as : (fate : Fate) (w : World N) (stops : List Stop) (same : Event) (sent done : ℕ) → fate ≡ fate_for seat.stop call → w ≡ next
              → stops ≡ stops' → same ≡ event → sent ≡ length c.player.world.sent → done ≡ length c.player.world.acts
              → course_settle step first script fate
              (record {
                player = record { world = w; events = c.player.events; schedule = c.player.schedule; unanswered = c.player.unanswered };
                stops = stops;
              })
              same sent done ≡ course_at step shelf_of c seat event
          settled_as fate w stops same sent done f x s e a b =
              ap (λ f. course_settle step first script f (at w stops) same sent done) f
              ∙ ap (λ v. course_settle step first script (fate_for seat.stop call) (at v stops) same sent done) x
              ∙ ap (λ l. course_settle step first script (fate_for seat.stop call) (at next l) same sent done) s
              ∙ ap (λ k. course_settle step first script (fate_for seat.stop call) turned k sent done) e
              ∙ ap (λ n. course_settle step first script (fate_for seat.stop call) turned event n done) a
              ∙ ap (λ n. course_settle step first script (fate_for seat.stop call) turned event (length c.player.world.sent) n) b
              ∙ course_settle_so

    -- the call that was found by the shelf at the seat changes it
    pub found_differs : (w : World N) (node : NodeId) (what : Do) → node ≡ node_of event → what ≡ what_of event
        → w ≡ world_happen step c.player.world node what
        → (call : Option Ask) (x shelf : Kept MemState) → slice_get shelves seat.place ≡ Some x → slice_get shelves seat.place ≡ Some shelf
        → call ≡ asked_of what (Some x.state.shelf) (shelf_at shelf_of w node) → GivesOf what x.state.shelf (shelf_at shelf_of w node) call
        → IfSome call (λ ask. shelf_after shelf.state.shelf ask ≢ shelf.state.shelf)
    found_differs w node what is_node is_what is_world call x shelf is_x is exact gives =
        differs shelf is call (asked_so w node what is_node is_what is_world call x shelf is_x is exact gives)
