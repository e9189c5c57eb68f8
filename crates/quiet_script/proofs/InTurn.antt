-- Whenever an item begins all before it are answered: so it is behind one line more.
use Rattle.std.proofs.Common.{◌≡◌, ◌⊎◌, inl, inr, ℕ, ◌+◌, List, [], ◌∷◌, ◌++◌, fold, length, length-append, refl, sym, ap, subst, ◌∙◌, append-nil}
use Rattle.headline.specs.Bounds.{BeginsNext, EachInItsTurn, world_after}
use Rattle.play.proofs.EachBegun.{more_begun}
use Rattle.play.proofs.RunOf.{play_runs}
use Rattle.play.specs.declared.player.Player.{Player}
use Rattle.play.specs.Plays.{answers, player_play, player_start, plays_line}
use Rattle.script_text.specs.declared.script.Line.{Line}
use Rattle.script_text.specs.declared.script.Script.{Script}
use Rattle.version_model.specs.declared.work.Work.{Work}
use Rattle.wire_msg.specs.declared.packet.Do.{Do}
use Rattle.wire_msg.specs.NodeStep.{NodeStep}
use Rattle.world_base.specs.declared.event.Event.{Event}
use Rattle.world_base.specs.declared.event.Event.TheVariants.{Begin, Deliver, Tick}
use Rattle.world_base.specs.declared.world.World.{World}
use Rattle.world_base.specs.Items.{items_of}
use Rattle.world_base.specs.NextWorld.{next_world, start_world}
use Rattle.world_base.specs.Runs.{Leads, begun_in}
use Rattle.xfs_base.specs.declared.node.NodeId.{NodeId}
use Rattle.xfs_base.specs.declared.setup.Setup.{Setup}

-- ---- where a list is parted

-- it is parted within the first part, or behind it
abbrev Parted : List Event → List Event → List Event → List Event → Type 0
Parted xs ys before after =
    ((rest : List Event) × ((xs ≡ before ++ rest) × (after ≡ rest ++ ys))) ⊎ ((more : List Event) × ((before ≡ xs ++ more) × (ys ≡ more ++ after)))

abbrev head_or : Event → List Event → Event
head_or e [] = e
head_or e (x ∷ xs) = x

abbrev rest_of : List Event → List Event
rest_of [] = []
rest_of (x ∷ xs) = xs

part : (xs ys before after : List Event) → xs ++ ys ≡ before ++ after → Parted xs ys before after
part xs ys [] after is = inl (xs, (refl, sym is))
part [] ys (b ∷ before) after is = inr (b ∷ before, (refl, is))
part (x ∷ xs) ys (b ∷ before) after is = onto (part xs ys before after (ap rest_of is))
  where
    same : x ≡ b
    same = ap (head_or b) is

    onto : Parted xs ys before after → Parted (x ∷ xs) ys (b ∷ before) after
    onto (inl (rest, (first, second))) = inl (rest, (ap (λ es. x ∷ es) first ∙ ap (λ e. e ∷ (before ++ rest)) same, second))
    onto (inr (more, (first, second))) = inr (more, (ap (λ es. b ∷ es) first ∙ ap (λ e. e ∷ (xs ++ more)) (sym same), second))

begins_first : (rest ys : List Event) → BeginsNext (rest ++ ys) → BeginsNext rest
begins_first [] ys next = tt
begins_first (Begin node ∷ rest) ys next = tt
begins_first (Deliver packet ∷ rest) ys next = next
begins_first (Tick node ∷ rest) ys next = next

-- ---- runs

module _ {N : Type 0} (step : N → Do → NodeStep N) (first : NodeId → Setup → List Work → N) (script : Script) where
  abbrev Prompt : List Event → Type 0
  Prompt events = EachInItsTurn step first script events

  leads_fold : (w : World N) (events : List Event) (end : World N) → Leads step w events end → fold (next_world step) w events ≡ end
  leads_fold w [] end leads = leads
  leads_fold w (event ∷ events) end leads = leads_fold (next_world step w event) events end leads.1

  pub world_is : (events : List Event) (end : World N) → Leads step (start_world first script) events end → world_after step first script events ≡ end
  world_is events end leads = leads_fold (start_world first script) events end leads

  -- what lines lead to is a run of them
  pub lines_run : (done : List Line) (p : Player N) → p ≡ fold (plays_line step) (player_start first script) done
      → Leads step (start_world first script) p.events p.world
  unfolding start_world player_play
  lines_run done p are =
      subst (λ (q : Player N). Leads step (start_world first script) q.events q.world) (sym are)
      (play_runs step (λ node setup works. first node setup (items_of script.lines node)) (record { setup = script.setup; lines = done }))

  pub none_in_turn : Prompt []
  unfolding start_world
  none_in_turn [] after is next = refl
  none_in_turn (b ∷ before) after is next = absurd (cc_none b (before ++ after) is)
    where
      cc_none : (b : Event) (es : List Event) → [] ≡ b ∷ es → ⊥
      cc_none b es is = cc

  module _ (events : List Event) (node : NodeId) (between : List Event) (so_far : Prompt events) (begins : begun_in between ≡ [])
      (all : answers (world_after step first script (events ++ Begin node ∷ between)).acts ≡ length (begun_in events) + 1) where
    begun_all : length (begun_in (events ++ Begin node ∷ between)) ≡ length (begun_in events) + 1
    begun_all =
        ap length (more_begun events (Begin node ∷ between))
        ∙ length-append (begun_in events) (node ∷ begun_in between)
        ∙ ap (λ ns. length (begun_in events) + length (node ∷ ns)) begins
        ∙ one_more (length (begun_in events))
      where
        one_more : (n : ℕ) → n + length (node ∷ []) ≡ n + 1
        one_more n = refl

    -- no item begins in between
    no_begin : (ms es : List Event) (n : NodeId) → between ≡ ms ++ Begin n ∷ es → ⊥
    no_begin ms es n is =
        none (begun_in ms) (begun_in es) (sym begins ∙ (ap begun_in is ∙ more_begun ms (Begin n ∷ es)))
      where
        none : (xs ys : List NodeId) → [] ≡ xs ++ n ∷ ys → ⊥
        none [] ys is = cc
        none (x ∷ xs) ys is = cc

    at_end : (before after : List Event) (more : List Event) → before ≡ events ++ more → Begin node ∷ between ≡ more ++ after → BeginsNext after
        → answers (world_after step first script before).acts ≡ length (begun_in before)
    at_end before after [] is rest next = so_far before [] (sym is_all) tt
      where
        is_all : before ++ [] ≡ events
        is_all = append-nil before ∙ (is ∙ append-nil events)
    at_end before [] (m ∷ ms) is rest next =
        subst (λ es. answers (world_after step first script es).acts ≡ length (begun_in es)) (sym (is ∙ ap (λ es. events ++ es) (sym (rest ∙ append-nil (m ∷ ms)))))
        (all ∙ sym begun_all)
    at_end before (Begin n ∷ after) (m ∷ ms) is rest next = absurd (no_begin ms after n (ap rest_of rest))
    at_end before (Deliver packet ∷ after) (m ∷ ms) is rest next = absurd next
    at_end before (Tick n ∷ after) (m ∷ ms) is rest next = absurd next

    pub in_turn_more : Prompt (events ++ Begin node ∷ between)
    in_turn_more before after is next = by (part events (Begin node ∷ between) before after is)
      where
        by : Parted events (Begin node ∷ between) before after → answers (world_after step first script before).acts ≡ length (begun_in before)
        by (inl (rest, (so, then_))) = so_far before rest so (begins_first rest (Begin node ∷ between) (subst BeginsNext then_ next))
        by (inr (more, (so, then_))) = at_end before after more so then_ next
