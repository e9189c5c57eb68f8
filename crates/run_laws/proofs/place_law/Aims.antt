-- A reading of the place of a fetch: it stays so while the reading is of the same target, and no fetch begins.
use Rattle.std.proofs.Common.{◌≡◌, ◌==◌, ◌&&◌, ℕ, Bool, true, Option, None, Some, refl, sym, ap, subst, ◌∙◌}
use Rattle.std.specs.List.{AllByRecursion}
use Rattle.std.proofs.lemmas.Bool.{eqb-true}
use Rattle.client_call.specs.Reads.{hear_reading, is_fetched, kept_while, same_at, same_target, target_of}
use Rattle.node_tellings.proofs.entry_tie.ClientReads.{OutTold, tokens_say}
use Rattle.node_tellings.proofs.entry_tie.ClientTokens.{FetchesTold, InputTold, tokens_so}
use Rattle.node_tellings.specs.entry_tie.ClientTells.{FetchTold}
use Rattle.node_tellings.specs.entry_tie.Told.{PlaceTold, Told}
use Rattle.group_map.specs.GroupMapState.{GroupMapState}
use Rattle.xfs_base.proofs.SegmentNames.{one_name}
use Rattle.segment_format.specs.declared.segment.Segment.{Segment}
use Rattle.segment_reading.specs.declared.reading.Next.TheVariants as next
use Rattle.segment_reading.specs.declared.reading.Stage.{Stage}
use Rattle.segment_reading.specs.declared.reading.Stage.TheVariants.{Asking, Between, Doubted, Over}
use Rattle.segment_reading.specs.declared.target.BlockAt.{BlockAt}
use Rattle.segment_reading.specs.declared.target.Target.{Target}
use Rattle.segment_reading.specs.Reading.{ReadingState, Step, counts, goes_on, reading_judge, reading_take, on_confirmed, reading_reads}
use Rattle.stripe_code.specs.declared.round.RoundState.{RoundState}
use Rattle.stripe_code.specs.declared.round.RoundState.TheVariants as rounds
use Rattle.stripe_code.specs.declared.round.Told.{Told as Answered}
use Rattle.xfs_base.specs.Segments.{same_name}
use Rattle.stripe_code.specs.Round.{state_of, round_take}
use Rattle.token_client.specs.declared.held.Fetch.{Fetch}
use Rattle.token_client.specs.declared.input.In.{In}
use Rattle.token_client.specs.declared.input.In.TheVariants as input
use Rattle.token_client.specs.State.{TokensState, held_of}
use Rattle.token_client.specs.Transition.{transition}
use Rattle.xfs_base.proofs.BlockOrder.{same_block_exact}
use Rattle.xfs_base.proofs.Booleans.{and_first, and_second, by_test, contrary}
use Rattle.xfs_base.specs.Blocks.{same_block}
use Rattle.xfs_base.specs.declared.block.BlockId.{BlockId}
use Rattle.xfs_base.specs.declared.entry.Place.{Place}
use Rattle.run_laws.specs.place_law.Fetches.{place_read}

-- the fetch of the block that is read is of the place that is read
abbrev pub Its : Option ReadingState → TokensState → Type 0
Its r t =
    (x : ReadingState) (at : BlockAt) (f : Fetch) → r ≡ Some x → x.target.block ≡ Some at → (held_of t.blocks at.block).fetch ≡ Some f
    → f.place ≡ place_read x at

-- ---- the reading

one_reading : (x y : ReadingState) → Some x ≡ Some y → x ≡ y
one_reading x y fact = cc

pub its_none : (t : TokensState) → Its None t
its_none t x at f fact block fetch = absurd (cc)

pub its_same : (x y : ReadingState) (t : TokensState) → y.target ≡ x.target → Its (Some x) t → Its (Some y) t
its_same x y t same h z at f fact block fetch =
    let target : z.target ≡ x.target = ap (λ (r : ReadingState). r.target) (sym (one_reading y z fact)) ∙ same in
    h x at f refl (ap (λ (t : Target). t.block) (sym target) ∙ block) fetch ∙ ap (λ (t : Target). record { seg = t.seg; item = at.item }) (sym target)

pub its_kept : (u : TokensState) (r : Option ReadingState) (t : TokensState) → Its r t → Its (kept_while u r) t
its_kept u None t h = h
its_kept u (Some x) t h = by_test (λ (o : Option ReadingState). Its o t) (is_fetched u x.target.block) (Some x) None (λ _. h) (λ _. its_none t)

-- the fetch of the block, where one runs, is of this place
abbrev pub HasPlace : TokensState → BlockId → Place → Type 0
HasPlace t block place = (f : Fetch) → (held_of t.blocks block).fetch ≡ Some f → f.place ≡ place

one_at : (x y : BlockAt) → Some x ≡ Some y → x ≡ y
one_at x y fact = cc

pub its_place : (x : ReadingState) (t : TokensState) (block : BlockId) (place : Place) → x.target ≡ target_of block place → HasPlace t block place
    → Its (Some x) t
its_place x t block place target has y at f fact its fetch =
    let same : y.target ≡ target_of block place = ap (λ (r : ReadingState). r.target) (sym (one_reading x y fact)) ∙ target in
    let here : record { item = place.item; block = block } ≡ at =
    one_at (record { item = place.item; block = block }) at (sym (ap (λ (t : Target). t.block) same) ∙ its) in
    has f (subst (λ (a : BlockAt). (held_of t.blocks a.block).fetch ≡ Some f) (sym here) fetch)
    ∙ (λ i. record { seg = (sym same i).seg; item = (here i).item })

-- ---- what is told leaves the target

reading_reads-target : (r : ReadingState) (found : Option Segment) → (reading_reads r found).state.target ≡ r.target
reading_reads-target r None = refl
reading_reads-target r (Some s) = refl

reading_judge-target : (r : ReadingState) (groups : GroupMapState) (now : RoundState) → (reading_judge r groups now).state.target ≡ r.target
reading_judge-target r groups (rounds.Read bytes) = reading_reads-target r _
reading_judge-target r groups (rounds.Short pairs) = refl
reading_judge-target r groups rounds.Waiting = refl

answered-target : (r : ReadingState) (groups : GroupMapState) (ask server : ℕ) (t : Answered) → (reading_take r groups ask server t).state.target ≡ r.target
unfolding reading_take
answered-target r groups ask server t =
    by_test (λ (x : Step). x.state.target ≡ r.target) (counts r ask server t)
    (reading_judge (record r { round = round_take r.round server t }) groups (state_of (round_take r.round server t))) (record { state = r; next = next.Wait })
    (λ _. reading_judge-target (record r { round = round_take r.round server t }) groups (state_of (round_take r.round server t))) (λ _. refl)

pub confirmed-target : (r : ReadingState) (ask : ℕ) → (on_confirmed r ask).state.target ≡ r.target
unfolding on_confirmed
confirmed-target r ask = at_stage r.stage
  where
    at_stage : (stage : Stage) → (goes_on r ask stage).state.target ≡ r.target
    at_stage Asking = refl
    at_stage Between = refl
    at_stage Doubted = refl
    at_stage Over = refl

pub its_heard : (r : Option ReadingState) (groups : Option GroupMapState) (ask server : ℕ) (a : Answered) (t : TokensState) → Its r t
    → Its (hear_reading r groups ask server a).reading t
its_heard None groups ask server a t h = its_none t
its_heard (Some r) None ask server a t h = h
its_heard (Some r) (Some groups) ask server a t h = its_same r (reading_take r groups ask server a).state t (answered-target r groups ask server a) h

-- ---- targets

at_exact : (o : Option BlockAt) (item : ℕ) (block : BlockId) → same_at o (Some (record { item = item; block = block })) ≡ true
    → o ≡ Some (record { item = item; block = block })
at_exact None item block h = contrary h
at_exact (Some at) item block h =
    let its_item : at.item ≡ item = eqb-true at.item item (and_first (at.item == item) (same_block at.block block) h) in
    let its_block : at.block ≡ block = sym (same_block_exact at.block block (and_second (at.item == item) (same_block at.block block) h)) in
    λ i. Some (record { item = its_item i; block = its_block i })

-- a target that is tested to be the one of a place is
pub target_exact : (a : Target) (block : BlockId) (place : Place) → same_target a (target_of block place) ≡ true → a ≡ target_of block place
target_exact a block place h =
    let names : Bool = same_name a.seg.name place.seg.name in
    let groups : Bool = a.seg.group == place.seg.group in
    let at : Bool = same_at a.block (target_of block place).block in
    let segment : (names && groups) ≡ true = and_first (names && groups) at h in
    let name : a.seg.name ≡ place.seg.name = one_name a.seg.name place.seg.name (and_first names groups segment) in
    let group : a.seg.group ≡ place.seg.group = eqb-true a.seg.group place.seg.group (and_second names groups segment) in
    let its : a.block ≡ (target_of block place).block = at_exact a.block place.item block (and_second (names && groups) at h) in
    λ i. record { seg = record { name = name i; group = group i }; block = its i }

-- ---- tokens

-- what is read lies at the place that is read alone
abbrev Aims : Option ReadingState → Told
Aims r b e =
    (x : ReadingState) (at : BlockAt) (place : Place) → r ≡ Some x → x.target.block ≡ Some at → at.block ≡ b → e.place ≡ Some place → place ≡ place_read x at

one_place : (p q : Place) → Some p ≡ Some q → p ≡ q
one_place p q fact = cc

aims : (r : Option ReadingState) (t : TokensState) → Its r t → FetchesTold (Aims r) t
aims r t h b = by (held_of t.blocks b).fetch refl
  where
    by : (o : Option Fetch) → (held_of t.blocks b).fetch ≡ o → FetchTold (Aims r) b o
    by None fact = tt
    by (Some f) fact = record {
      hop = 0;
      place_told = λ x at place its block same lies.
          sym (one_place f.place place lies)
          ∙ h x at f its block (subst (λ (c : BlockId). (held_of t.blocks c).fetch ≡ Some f) (sym same) fact);
    }

aimed : (r : Option ReadingState) (t : TokensState) → FetchesTold (Aims r) t → Its r t
aimed r t h x at f fact block fetch =
    let p : PlaceTold (Aims r) at.block f.ver f.place = subst (FetchTold (Aims r) at.block) fetch (h at.block) in
    p.place_told x at f.place fact block refl refl

-- an input that is no grant of a place
abbrev pub NoGrant : In → Type 0
NoGrant (input.Granted block stamp inc req mode entry) = entry.place ≡ None
NoGrant _ = Unit {0}

nothing : (place : Place) → None ≡ Some place → ⊥
nothing place h = absurd (cc)

given : (r : Option ReadingState) (i : In) → NoGrant i → InputTold (Aims r) i
given r (input.Granted block stamp inc req mode entry) none = λ x at place its b same lies. absurd (nothing place (sym none ∙ lies))
given r _ none = tt

pub its_taken : (r : Option ReadingState) (t : TokensState) (i : In) → NoGrant i → Its r t → Its r (transition t i).state
its_taken r t i none h = aimed r (transition t i).state (tokens_so (Aims r) t i (given r i none) (aims r t h))

-- what is told lies nowhere
abbrev pub Nowhere : Told
Nowhere b e = e.place ≡ None

-- by such an input nothing is to be read
pub reads_nothing : (t : TokensState) (i : In) → NoGrant i → AllByRecursion (OutTold Nowhere) (transition t i).outs
reads_nothing t i none = tokens_say Nowhere t i (nowhere i none)
  where
    nowhere : (i : In) → NoGrant i → InputTold Nowhere i
    nowhere (input.Granted block stamp inc req mode entry) none = none
    nowhere _ none = tt
