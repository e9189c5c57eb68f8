-- What a server holds and tells is bytes, whatever happens to it.
use Rattle.std.proofs.Common.{ℕ, zero, suc, ◌<◌, ◌==◌, ◌&&◌, ◌||◌, not, List, [], ◌∷◌, length, Option, Some, None, subst}
use Rattle.std.specs.Prelude.{IfSome, slice_get, unwrap_or}
use Rattle.std.specs.List.{AllByRecursion}
use Rattle.std.specs.Option.{is_some}
use Rattle.std.proofs.lemmas.List.Elements.{All-from_recursion}
use Rattle.xfs_base.proofs.Booleans.{by_test}
use Rattle.xfs_base.specs.declared.fragment.FragMeta.{FragMeta}
use Rattle.xfs_base.specs.declared.fragment.Fragment.{Fragment}
use Rattle.xfs_base.specs.declared.node.NodeId.{NodeId}
use Rattle.xfs_base.specs.declared.segment.LogId.{LogId}
use Rattle.xfs_base.specs.declared.segment.Pass.{Pass}
use Rattle.xfs_base.specs.declared.segment.SegName.{SegName}
use Rattle.xfs_base.specs.Segments.{pass_cmp, seg_cmp}
use Rattle.xfs_base.specs.Stamps.{is_greater}
use Rattle.xfs_base.specs.Steps.{Stepped, still}
use Rattle.xfs_base.proofs.Alls.{all_filter, all_map}
use Rattle.xfs_base.proofs.Leaving.{Leaves, goes_after, stays}
use Rattle.fragment_store.specs.Calls.{shelf_store, on_fence as fenced_at, on_fill, with_fragment}
use Rattle.fragment_store.specs.ShelfState.{ShelfState, fence_of, held_at, is_held, is_marked, same_name}
use Rattle.group_rebuild.specs.declared.input.In.{In as Input}
use Rattle.group_rebuild.specs.declared.input.In.TheVariants as input
use Rattle.group_rebuild.specs.declared.output.Out.{Out}
use Rattle.group_rebuild.specs.declared.output.Out.TheVariants as out
use Rattle.group_rebuild.specs.declared.reads.Present.{Present}
use Rattle.group_rebuild.specs.declared.wanted.Wanted.{Wanted}
use Rattle.group_rebuild.specs.Reads as reads
use Rattle.group_rebuild.specs.Reads.{ReadsState, reads_of, answered, asked_again, counts, fetches, go_on, reads_judge, one_more}
use Rattle.group_rebuild.specs.RebuildState.{RebuildState}
use Rattle.group_rebuild.specs.Transition as rebuild
use Rattle.group_rebuild.specs.Transition.{awaited, awaits, rebuild_begin as begun_rebuild, begun_if_all, heard_from, told_by, repeated, transition, remove_names}
use Rattle.group_rebuild.specs.Wanted.{refilled, wanted_in}
use Rattle.std.specs.Map.{values_of}
use Rattle.store_nodes.specs.ServerEvents.{takes}
use Rattle.stripe_code.specs.declared.round.RoundState.{RoundState}
use Rattle.stripe_code.specs.declared.round.RoundState.TheVariants.{Read, Short, Waiting}
use Rattle.stripe_code.specs.declared.round.Told.{Told}
use Rattle.stripe_code.specs.declared.round.Told.TheVariants.{Held, Missing}
use Rattle.stripe_code.specs.Round.{RoundSoFar, state_of, round_take}
use Rattle.stripe_code.specs.Stripe.{stripe_of}
use Rattle.version_model.specs.declared.work.Work.{Work}
use Rattle.wire_msg.specs.declared.body.Body.{Body}
use Rattle.wire_msg.specs.declared.packet.Do.{Do}
use Rattle.wire_msg.specs.declared.packet.Packet.{Packet}
use Rattle.node_moves.proofs.server_moves.Keeping.{Keeps, event_keeps, packets_say}
use Rattle.node_moves.specs.server_moves.Moves.{Given}
use Rattle.node_moves.proofs.server_moves.Moves.{Sent}
use Rattle.node_moves.specs.server_moves.Moves.Given.{FragmentCame}
use Rattle.node_moves.proofs.server_moves.Moves.Sent.{Held as HeldSent}
use Rattle.node_logs.specs.cleaner_log_tie.Fitting.{RoundFits, ToldFits}
use Rattle.node_logs.proofs.cleaner_log_tie.Bytes.{Bytes, StateBytes, state_bytes, taken_fits}
use Rattle.node_logs.specs.manager_log_tie.Servers.{CarriesBytes, ComesInBytes, FragmentFits, PresentFits, ReadsFit, ServersStartEmpty, ServersTellBytes, ShelfFits}
use Rattle.node_logs.proofs.manager_log_tie.Told.{stripe_bytes}

-- ---- a shelf

with_bytes : (f : Fragment) (held : List Fragment) → FragmentFits f → AllByRecursion FragmentFits held → AllByRecursion FragmentFits (with_fragment f held)
with_bytes f [] new all = (new, tt)
with_bytes f (h ∷ held) new all =
    by_test (AllByRecursion FragmentFits) (is_greater (seg_cmp f.meta.name h.meta.name)) (h ∷ with_fragment f held) (f ∷ h ∷ held)
    (λ t. (all.0, with_bytes f held new all.1)) (λ t. (new, all))

kept_bytes : (s : ShelfState) (f : Fragment) → ShelfFits s → FragmentFits f → ShelfFits (shelf_store s f)
kept_bytes s f h new = by_test ShelfFits (is_held s f.meta.name) s _ (λ t. h) (λ t. with_bytes f s.held new h)

fenced_bytes : (s : ShelfState) (log : LogId) (pass : Pass) → ShelfFits s → ShelfFits (fenced_at s log pass)
fenced_bytes s log pass h = by_test ShelfFits (is_greater (pass_cmp pass (fence_of s.fences log))) _ s (λ t. h) (λ t. h)

filled_bytes : (s : ShelfState) (f : Fragment) → ShelfFits s → FragmentFits f → ShelfFits (on_fill s f)
filled_bytes s f h new = by_test ShelfFits (is_marked s.marks f.meta.name) s (shelf_store s f) (λ t. h) (λ t. kept_bytes s f h new)

found_bytes : (held : List Fragment) (name : SegName) → AllByRecursion FragmentFits held → IfSome (held_at held name) FragmentFits
found_bytes [] name all = tt
found_bytes (h ∷ held) name all =
    by_test (λ (o : Option Fragment). IfSome o FragmentFits) (same_name name h.meta.name) (Some h) (held_at held name) (λ t. all.0)
    (λ t. found_bytes held name all.1)

-- ---- a rebuild

-- what is filled in is bytes
abbrev OutFits : Out → Type 0
OutFits (out.Fill f) = FragmentFits f
OutFits _ = Unit {0}

abbrev ReadsGo : Stepped ReadsState Out → Type 0
ReadsGo d = Leaves ReadsFit OutFits d

fetches_fit : (name : SegName) (ask : ℕ) (servers : List ℕ) → AllByRecursion OutFits (fetches name ask servers)
fetches_fit name ask servers = all_map OutFits (λ (server : ℕ). out.Fetch server name ask) (λ server. tt) servers

goes_on_fits : (left : List Wanted) (r : ReadsState) → ReadsGo (go_on left r)
goes_on_fits [] r = record { state = tt; outs = (tt, tt) }
goes_on_fits (w ∷ ws) r = record { state = tt; outs = fetches_fit w.meta.name (one_more r.ask) w.others }

at_bytes : (fs : List (List ℕ)) (place : ℕ) → AllByRecursion Bytes fs → Bytes (unwrap_or (slice_get fs place) [])
at_bytes [] place all = tt
at_bytes (f ∷ fs) zero all = all.0
at_bytes (f ∷ fs) (suc place) all = at_bytes fs place all.1

refilled_bytes : (w : Wanted) (text : List ℕ) → Bytes text → FragmentFits (refilled w text)
unfolding refilled
refilled_bytes w text bytes =
    All-from_recursion (λ (byte : ℕ). byte < 256) _
    (at_bytes (stripe_of text w.n w.parity) w.place (stripe_bytes text w.n w.parity (All-from_recursion (λ (byte : ℕ). byte < 256) text bytes)))

judged_fits : (r : ReadsState) (w : Wanted) (round : RoundSoFar) (st : RoundState) → RoundFits round → StateBytes st → ReadsGo (reads_judge r w round st)
judged_fits r w round (Read text) h bytes =
    goes_after ReadsFit OutFits (out.Fill (refilled w text) ∷ []) (go_on r.left (record r { filled = one_more r.filled })) (refilled_bytes w text bytes, tt)
    (goes_on_fits r.left (record r { filled = one_more r.filled }))
judged_fits r w round (Short pairs) h bytes = goes_on_fits r.left (record r { gone = one_more r.gone })
judged_fits r w round Waiting h bytes = record { state = h; outs = tt }

answered_fits : (r : ReadsState) (present : Option Present) (ask server : ℕ) (told : Told) → ReadsFit r → IfSome present PresentFits → ToldFits told
    → ReadsGo (answered r present ask server told)
answered_fits r None ask server told h here new = stays ReadsFit OutFits r h
answered_fits r (Some p) ask server told h here new =
    let now : RoundSoFar = round_take p.round server told in
    let fit : RoundFits now = taken_fits p.round server told here new in
    by_test ReadsGo ((ask == r.ask) && counts p server told) (reads_judge r p.wanted now (state_of now)) (still r)
    (λ t. judged_fits r p.wanted now (state_of now) fit (state_bytes now fit)) (λ t. stays ReadsFit OutFits r h)

answer_fits : (r : ReadsState) (ask server : ℕ) (told : Told) → ReadsFit r → ToldFits told → ReadsGo (reads.reads_take r ask server told)
unfolding reads.reads_take
answer_fits r ask server told h new = answered_fits r r.present ask server told h h new

again_fits : (ask : ℕ) (p : Option Present) → AllByRecursion OutFits (asked_again ask p)
again_fits ask None = tt
again_fits ask (Some p) = fetches_fit p.wanted.meta.name ask _

abbrev StateFits : RebuildState → Type 0
StateFits s = IfSome s.reads ReadsFit

abbrev StateGoes : Stepped RebuildState Out → Type 0
StateGoes d = Leaves StateFits OutFits d

begun_fits : (s : RebuildState) (names : List SegName) → StateGoes (begun_rebuild s names)
begun_fits s names =
    (let wanted : List Wanted = wanted_in s.server s.groups (values_of (remove_names names s.listed)) in
    let d = goes_on_fits wanted (reads_of wanted) in
    record { state = d.state; outs = d.outs })

listed_fits : (s : RebuildState) (server : ℕ) (metas : List FragMeta) (names : List SegName) → StateFits s → StateGoes (rebuild.on_listed s server metas names)
unfolding rebuild.on_listed
listed_fits s server metas names h =
    by_test StateGoes (is_some s.reads || not (awaits s server)) (still s) (begun_if_all (heard_from s server metas) names)
    (λ t. stays StateFits OutFits s h)
    (λ t. by_test StateGoes (length (awaited (heard_from s server metas)) == 0) (begun_rebuild (heard_from s server metas) names)
    (still (heard_from s server metas))
    (λ u. begun_fits (heard_from s server metas) names) (λ u. stays StateFits OutFits (heard_from s server metas) h))

told_fits : (s : RebuildState) (r : Option ReadsState) (ask server : ℕ) (told : Told) → StateFits s → IfSome r ReadsFit → ToldFits told
    → StateGoes (told_by s r ask server told)
told_fits s None ask server told h here new = stays StateFits OutFits s h
told_fits s (Some r) ask server told h here new = (let d = answer_fits r ask server told here new in record { state = d.state; outs = d.outs })

repeated_fits : (s : RebuildState) (r : Option ReadsState) → AllByRecursion OutFits (repeated s r)
repeated_fits s None = all_map OutFits (λ (server : ℕ). out.List server) (λ server. tt) (awaited s)
repeated_fits s (Some r) = again_fits r.ask r.present

abbrev InputFits : Input → Type 0
InputFits (input.Got ask server generation f) = FragmentFits f
InputFits _ = Unit {0}

rebuild_fits : (s : RebuildState) (i : Input) → StateFits s → InputFits i → StateGoes (transition s i)
rebuild_fits s (input.Listed server metas names) h new = listed_fits s server metas names h
rebuild_fits s (input.Got ask server generation f) h new = told_fits s s.reads ask server (Held f) h h new
rebuild_fits s (input.Missing ask server generation) h new = told_fits s s.reads ask server (Missing generation) h h tt
rebuild_fits s (input.Maps groups) h new = record { state = h; outs = tt }
rebuild_fits s input.Tick h new = record { state = h; outs = repeated_fits s s.reads }

-- ---- events

-- what the rebuild takes in an event came in bytes
given_fits : (what : Do) (shelf : ShelfState) (given : Input) → ComesInBytes what → Given what shelf given → InputFits given
given_fits what shelf given new (FragmentCame packet own server m came) = subst CarriesBytes came.says (subst ComesInBytes came.event new)
given_fits what shelf given new _ = tt

abbrev SendsBytes : NodeId → Body → Type 0
SendsBytes to said = CarriesBytes said

sends_fit : (first : ShelfState) (what : Do) (s : ShelfState) (to : NodeId) (said : Body) → ShelfFits s → Sent first what s to said → CarriesBytes said
sends_fit first what s to said h (HeldSent packet m f came fact) = subst (λ o. IfSome o FragmentFits) fact (found_bytes s.held m.name h)
sends_fit first what s to said h _ = tt

keeps : (first : ShelfState) (what : Do) → ComesInBytes what → Keeps first what ShelfFits StateFits (λ (works : List Work). Unit {0}) OutFits SendsBytes
keeps first what new = record {
  stores = λ packet m came s h. kept_bytes s m.fragment h (subst CarriesBytes came.says (subst ComesInBytes came.event new));
  fences = λ log pass s h. fenced_bytes s log pass h;
  deletes = λ packet m came s h. all_filter FragmentFits (λ (f : Fragment). not (same_name m.name f.meta.name)) s.held h;
  fills = λ f so s h. filled_bytes s f h so;
  loses = λ items number server asked works s room h. tt;
  begins = λ server groups. tt;
  takes = λ s r given came h. rebuild_fits r given h (given_fits what s given new came);
  sends = λ s to said h sent. sends_fit first what s to said h sent;
}

-- ---- the law

pub servers_start : ServersStartEmpty
servers_start number setup works = record { shelf = tt; rebuild = tt }

pub servers_tell : ServersTellBytes
servers_tell node what h new =
    let d = event_keeps node what ShelfFits StateFits (λ works. Unit {0}) OutFits SendsBytes (keeps node.shelf what new)
    (record { shelf = h.shelf; rebuild = h.rebuild; works = tt }) in
    record {
      node = record { shelf = d.state.shelf; rebuild = d.state.rebuild };
      packets = packets_say node what (λ (p : Packet). CarriesBytes p.body) (takes node what).outs d.outs;
    }
