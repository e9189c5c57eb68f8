-- A rebuild fills in one fragment at most for one input, and none but for what a server told of a segment.
use Rattle.std.proofs.Common.{◌≡◌, ℕ, ◌==◌, ◌&&◌, ◌||◌, not, is_some, List, [], ◌∷◌, Option, Some, None, length, refl, ◌∙◌}
use Rattle.std.specs.List.{AllByRecursion}
use Rattle.fragment_store.specs.Calls.{on_fill}
use Rattle.fragment_store.specs.ShelfState.{ShelfState}
use Rattle.group_rebuild.specs.declared.output.Out.{Out}
use Rattle.group_rebuild.specs.declared.output.Out.TheVariants as out
use Rattle.group_rebuild.specs.declared.input.In.{In}
use Rattle.group_rebuild.specs.declared.input.In.TheVariants as input
use Rattle.group_rebuild.specs.declared.reads.Present.{Present}
use Rattle.group_rebuild.specs.declared.wanted.Wanted.{Wanted}
use Rattle.group_rebuild.specs.Reads.{ReadsState, answered, reads_of, counts, fetches, go_on, reads_judge, reads_take}
use Rattle.group_rebuild.specs.Reads as reads
use Rattle.group_rebuild.specs.RebuildState.{RebuildState}
use Rattle.group_rebuild.specs.Transition.{awaited, awaits, rebuild_begin, begun_if_all, heard_from, on_listed, on_tick, repeated, told_by, transition}
use Rattle.group_rebuild.specs.Wanted.{refilled}
use Rattle.store_nodes.specs.declared.server.Rebuilding.{Rebuilding}
use Rattle.store_nodes.specs.declared.server.Server.{Server as Node}
use Rattle.store_nodes.specs.Rebuilds.{ask_fragment, goes_on, rebuilds, says}
use Rattle.stripe_code.specs.declared.round.RoundState.{RoundState}
use Rattle.stripe_code.specs.declared.round.RoundState.TheVariants.{Read, Short, Waiting}
use Rattle.stripe_code.specs.declared.round.Told.{Told}
use Rattle.stripe_code.specs.Round.{RoundSoFar, state_of, round_take, unanswered}
use Rattle.xfs_base.proofs.Alls.{all_map}
use Rattle.xfs_base.proofs.Booleans.{by_test}
use Rattle.xfs_base.specs.declared.fragment.FragMeta.{FragMeta}
use Rattle.xfs_base.specs.declared.fragment.Fragment.{Fragment}
use Rattle.xfs_base.specs.declared.segment.SegName.{SegName}
use Rattle.xfs_base.specs.Steps.{Stepped, steps, still}

-- ---- what is said

-- this fills nothing in
abbrev pub FillsNothing : Out → Type 0
FillsNothing (out.Fill f) = ⊥
FillsNothing _ = Unit {0}

abbrev FillNothing : List Out → Type 0
FillNothing outs = AllByRecursion FillsNothing outs

-- nothing is filled in, or one fragment first, and nothing then
pub data FillsOne : List Out → Type 0 where
  NoFill : (outs : List Out) → FillNothing outs → FillsOne outs
  OneFill : (f : Fragment) (outs : List Out) → FillNothing outs → FillsOne (out.Fill f ∷ outs)

no_fetch_fills : (name : SegName) (ask : ℕ) (servers : List ℕ) → FillNothing (fetches name ask servers)
no_fetch_fills name ask servers = all_map FillsNothing (λ server. out.Fetch server name ask) (λ server. tt) servers

going_on_fills_nothing : (left : List Wanted) (r : ReadsState) → FillNothing (go_on left r).outs
going_on_fills_nothing [] r = (tt, tt)
going_on_fills_nothing (w ∷ ws) r = no_fetch_fills w.meta.name (reads.one_more r.ask) w.others

judging_fills_one : (r : ReadsState) (w : Wanted) (round : RoundSoFar) (state : RoundState) → FillsOne (reads_judge r w round state).outs
judging_fills_one r w round (Read text) =
    OneFill (refilled w text) (go_on r.left (record r { filled = reads.one_more r.filled })).outs
    (going_on_fills_nothing r.left (record r { filled = reads.one_more r.filled }))
judging_fills_one r w round (Short pairs) =
    NoFill (go_on r.left (record r { gone = reads.one_more r.gone })).outs (going_on_fills_nothing r.left (record r { gone = reads.one_more r.gone }))
judging_fills_one r w round Waiting = NoFill [] tt

answer_fills_one : (r : ReadsState) (present : Option Present) (ask server : ℕ) (told : Told) → FillsOne (answered r present ask server told).outs
answer_fills_one r None ask server told = NoFill [] tt
answer_fills_one r (Some p) ask server told =
    by_test (λ (d : Stepped ReadsState Out). FillsOne d.outs) ((ask == r.ask) && counts p server told)
    (reads_judge r p.wanted (round_take p.round server told) (state_of (round_take p.round server told))) (still r)
    (λ t. judging_fills_one r p.wanted (round_take p.round server told) (state_of (round_take p.round server told))) (λ t. NoFill [] tt)

told_fills_one : (s : RebuildState) (r : Option ReadsState) (ask server : ℕ) (told : Told) → FillsOne (told_by s r ask server told).outs
unfolding reads_take
told_fills_one s None ask server told = NoFill [] tt
told_fills_one s (Some r) ask server told = answer_fills_one r r.present ask server told

asking_again_fills_nothing : (ask : ℕ) (present : Option Present) → FillNothing (reads.asked_again ask present)
asking_again_fills_nothing ask None = tt
asking_again_fills_nothing ask (Some p) = no_fetch_fills p.wanted.meta.name ask (unanswered p.round)

tick_fills_nothing : (s : RebuildState) → FillNothing (on_tick s)
tick_fills_nothing s = by s.reads
  where
    by : (r : Option ReadsState) → FillNothing (repeated s r)
    by None = all_map FillsNothing (λ server. out.List server) (λ server. tt) (awaited s)
    by (Some r) = asking_again_fills_nothing r.ask r.present

list_fills_nothing : (s : RebuildState) (server : ℕ) (metas : List FragMeta) (barred : List SegName) → FillNothing (on_listed s server metas barred).outs
unfolding on_listed
list_fills_nothing s server metas barred =
    by_test (λ (d : Stepped RebuildState Out). FillNothing d.outs) (is_some s.reads || not (awaits s server)) (still s)
    (begun_if_all (heard_from s server metas) barred) (λ t. tt)
    (λ t. by_test (λ (d : Stepped RebuildState Out). FillNothing d.outs) (length (awaited (heard_from s server metas)) == 0)
    (rebuild_begin (heard_from s server metas) barred) (still (heard_from s server metas)) (λ u. going_on_fills_nothing _ _) (λ u. tt))

-- what fills a fragment in
abbrev pub IsTold : In → Type 0
IsTold (input.Got ask server generation fragment) = Unit {0}
IsTold (input.Missing ask server generation) = Unit {0}
IsTold _ = ⊥

pub one_fill : (s : RebuildState) (given : In) → FillsOne (transition s given).outs
one_fill s (input.Listed server metas barred) = NoFill _ (list_fills_nothing s server metas barred)
one_fill s (input.Got ask server generation fragment) = told_fills_one s s.reads ask server _
one_fill s (input.Missing ask server generation) = told_fills_one s s.reads ask server _
one_fill s (input.Maps groups) = NoFill [] tt
one_fill s input.Tick = NoFill (on_tick s) (tick_fills_nothing s)

no_fill : (s : RebuildState) (given : In) → (IsTold given → ⊥) → FillNothing (transition s given).outs
no_fill s (input.Listed server metas barred) not_told = list_fills_nothing s server metas barred
no_fill s (input.Got ask server generation fragment) not_told = absurd (not_told tt)
no_fill s (input.Missing ask server generation) not_told = absurd (not_told tt)
no_fill s (input.Maps groups) not_told = tt
no_fill s input.Tick not_told = tick_fills_nothing s

-- ---- what is done

said_keeps_shelf : (node : Node) (o : Out) → FillsNothing o → (says node o).state.shelf ≡ node.shelf
unfolding says
said_keeps_shelf node (out.List server) so = refl
said_keeps_shelf node (out.Fetch server name own) so = by node.rebuilding
  where
    by : (r : Option Rebuilding) → (ask_fragment node r server name own).state.shelf ≡ node.shelf
    by None = refl
    by (Some r) = refl
said_keeps_shelf node (out.Fill f) so = absurd so
said_keeps_shelf node (out.Finished filled gone) so = refl

all_keep_shelf : (node : Node) (outs : List Out) → FillNothing outs → (steps says node outs).state.shelf ≡ node.shelf
all_keep_shelf node [] so = refl
all_keep_shelf node (o ∷ outs) so = all_keep_shelf (says node o).state outs so.1 ∙ said_keeps_shelf node o so.0

-- the shelf is what it was, or a fragment is filled in
pub data Filled (old new : ShelfState) : Type 0 where
  Nothing : new ≡ old → Filled old new
  One : (f : Fragment) → new ≡ on_fill old f → Filled old new

said_fills_one : (node : Node) (outs : List Out) → FillsOne outs → Filled node.shelf (steps says node outs).state.shelf
unfolding says
said_fills_one node outs (NoFill _ so) = Nothing (all_keep_shelf node outs so)
said_fills_one node outs (OneFill f more so) = One f (all_keep_shelf (record node { shelf = on_fill node.shelf f }) more so)

goes_on_fills_one : (node : Node) (r : Option Rebuilding) (given : In) → Filled node.shelf (goes_on node r given).state.shelf
goes_on_fills_one node None given = Nothing refl
goes_on_fills_one node (Some r) given =
    said_fills_one (record node { rebuilding = Some (record r { rebuild = (transition r.rebuild given).state }) }) (transition r.rebuild given).outs
    (one_fill r.rebuild given)

goes_on_keeps_shelf : (node : Node) (r : Option Rebuilding) (given : In) → (IsTold given → ⊥) → (goes_on node r given).state.shelf ≡ node.shelf
goes_on_keeps_shelf node None given not_told = refl
goes_on_keeps_shelf node (Some r) given not_told =
    all_keep_shelf (record node { rebuilding = Some (record r { rebuild = (transition r.rebuild given).state }) }) (transition r.rebuild given).outs
    (no_fill r.rebuild given not_told)

pub rebuild_fills_one : (node : Node) (given : In) → Filled node.shelf (rebuilds node given).state.shelf
unfolding rebuilds
rebuild_fills_one node given = goes_on_fills_one node node.rebuilding given

pub rebuild_keeps_shelf : (node : Node) (given : In) → (IsTold given → ⊥) → (rebuilds node given).state.shelf ≡ node.shelf
unfolding rebuilds
rebuild_keeps_shelf node given not_told = goes_on_keeps_shelf node node.rebuilding given not_told
