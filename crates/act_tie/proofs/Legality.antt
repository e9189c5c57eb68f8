-- The acts of a run are legal where the acts of each block are, and each block's history is seen in the one that its acts make: by induction over the acts.
use Rattle.std.proofs.Common.{◌≡◌, ◌<◌, ℕ, zero, suc, Bool, true, false, List, [], ◌∷◌, ◌++◌, length, Option, Some, None, refl, sym, ap, subst, ◌∙◌, arith}
use Rattle.std.specs.Prelude.{if◌then◌else◌, slice_get}
use Rattle.std.specs.List.{AllByRecursion}
use Rattle.xfs_base.specs.declared.block.BlockId.{BlockId}
use Rattle.xfs_base.specs.Blocks.{same_block}
use Rattle.xfs_base.proofs.BlockOrder.{same_block_exact, same_block_itself}
use Rattle.version_model.specs.declared.act.Act.{Act}
use Rattle.version_model.specs.declared.act.Act.TheVariants.{Wrote, Read, Synced, Fell, Back, Lost, Filed, Dropped, Answered}
use Rattle.version_model.specs.declared.act.Fall.{Fall}
use Rattle.version_model.specs.declared.history.Version.{Version}
use Rattle.version_model.specs.declared.history.BlockHistory.{BlockHistory}
use Rattle.version_model.specs.declared.history.FallTold.{FallTold}
use Rattle.version_model.specs.History.{Content, History, content_at, is_by_other, greatest_by, nothing_yet}
use Rattle.version_model.specs.Effects.{change, append, pin, after_act, history_after}
use Rattle.version_model.specs.Legal.{IsNewestBy, MayFall, IsLegalIn, AreLegal, AreLegalFrom}
use Rattle.token_protocol.specs.Acts as block
use Rattle.token_protocol.specs.Acts.Act.{Wrote as WroteBlock, Read as ReadBlock, Fell as FellBlock}
use Rattle.token_protocol.proofs.Told.{history_through}
use Rattle.act_tie.specs.Number.{number}
use Rattle.act_tie.specs.BlockActs.{fall_of, acts_of_fall, block_acts, acts_from, acts_of}
use Rattle.act_tie.specs.Shown.{BlockShown, HistoryShown}
use Rattle.version_model.specs.Falls.{AreApartFrom, FallsApart, IsApart}
use Rattle.act_tie.proofs.Injection.{number-same}
use Rattle.act_tie.proofs.Falling.{all_found}
use Rattle.act_tie.proofs.Acting.{wrote_shown, read_shown, synced_shown, fell_shown, back_shown}

-- ---- each act is legal

-- the newest version's content, where the read is legal
content_is : (b : BlockId) (p : BlockHistory) (told : ℕ → List FallTold) (t : block.History) → BlockShown b p told t → (ver : ℕ) (value : Content)
    → block.LegalRead t ver (number value)
    → content_at ver p.versions ≡ Some value
content_is b p told t s zero value legal =
    let at : 0 ≡ t.length = legal.newest in
    ap Some (number-same None value (sym s.absent ∙ ap t.value_at at ∙ sym legal.text))
content_is b p told t s (suc n) value legal = go (slice_get p.versions n) refl
  where
    go : (o : Option Version) → slice_get p.versions n ≡ o → elim o as (λ _. Option Content) [ None ↦ None | Some v ↦ Some v.content ] ≡ Some value
    go None fact = absurd (nothing p.versions n (let a = legal.newest in let c = s.newest in omega arith) fact)
      where
        nothing : (xs : List Version) (k : ℕ) → k < length xs → slice_get xs k ≡ None → ⊥
        nothing [] k below none = absurd (omega arith)
        nothing (x ∷ xs) zero below none = absurd (cc)
        nothing (x ∷ xs) (suc k) below none = nothing xs k (omega arith) none
    go (Some v) fact = ap Some (number-same v.content value (sym (s.values n v fact) ∙ ap t.value_at legal.newest ∙ sym legal.text))

-- the newest version is by a client, if the last of them is
newest_by : (client : ℕ) (xs : List Version) → 0 < length xs → ((k : ℕ) (x : Version) → slice_get xs k ≡ Some x → suc k ≡ length xs → x.writer ≡ client)
    → IsNewestBy client xs
newest_by client [] some last = absurd (omega arith)
newest_by client (v ∷ []) some last = last 0 v refl refl
newest_by client (v ∷ w ∷ vs) some last = newest_by client (w ∷ vs) (omega arith) (λ k x fact at. last (suc k) x fact (ap suc at))

may_fall : (b : BlockId) (p : BlockHistory) (told : ℕ → List FallTold) (t : block.History) → BlockShown b p told t → (client : ℕ) (f : Fall)
    → block.LegalFell t client f.low f.high → MayFall client p f
may_fall b p told t s client f legal =
    let n = s.newest in
    record {
      newest = newest_by client p.versions (let some = legal.some in omega arith) (λ k x fact at. sym (s.writers k x fact) ∙ ap t.writer (at ∙ sym n)
          ∙ legal.own);
      pinned = let same = s.pinned in let low = legal.pinned in omega arith;
      ordered = legal.ordered;
      there = let known = legal.known in omega arith;
    }

abbrev AllShown : History → (BlockId → block.History) → Type 0
AllShown h made = (b : BlockId) → HistoryShown b h (made b)

abbrev AllLegal : Act → History → (BlockId → block.History) → Type 0
AllLegal a h made = (b : BlockId) → block.LegalFrom (made b) (block_acts b h a)

legal_here : (a : Act) (h : History) (made : BlockId → block.History) → AllShown h made → IsApart a h → AllLegal a h made → IsLegalIn a h
legal_here (Wrote client q value) h made s apart legal = tt
legal_here (Read client q ver value) h made s apart legal =
    let here : block.LegalFrom (made q) (ReadBlock client ver (number value) ∷ []) =
    subst (λ y. block.LegalFrom (made q) (if y then ReadBlock client ver (number value) ∷ [] else [])) (same_block_itself q) (legal q) in
    let shown = s q in
    (here.0.newest ∙ shown.newest, content_is q (h.of_block q) h.told (made q) shown ver value here.0)
legal_here (Synced client) h made s apart legal = tt
legal_here (Fell client flight falls) h made s apart legal = (apart.1, walk falls (all_found falls apart.1))
  where
    walk : (gs : List Fall) → AllByRecursion (λ g. fall_of g.block falls ≡ Some g) gs → AllByRecursion (λ g. MayFall client (h.of_block g.block) g) gs
    walk [] found = tt
    walk (g ∷ gs) found =
        let here : block.LegalFrom (made g.block) (FellBlock client g.low g.high ∷ []) =
        subst (λ o. block.LegalFrom (made g.block) (acts_of_fall client o)) found.0 (legal g.block) in
        (may_fall g.block (h.of_block g.block) h.told (made g.block) (s g.block) client g here.0, walk gs found.1)
legal_here (Back client chain) h made s apart legal = tt
legal_here (Lost node seg) h made s apart legal = tt
legal_here (Filed seg) h made s apart legal = tt
legal_here (Dropped seg) h made s apart legal = tt
legal_here (Answered node item answer) h made s apart legal = tt

-- ---- each act keeps histories seen

act_shown : (b : BlockId) (a : Act) (h : History) (t : block.History) → HistoryShown b h t → IsApart a h → block.LegalFrom t (block_acts b h a)
    → HistoryShown b (after_act a h) (block.history_after (block_acts b h a) t)
act_shown b (Wrote client q value) h t s apart legal = go (same_block q b)
  where
    go : (y : Bool) → BlockShown b (if y then append (record { content = value; writer = client }) (h.of_block b) else h.of_block b) h.told
        (block.history_after (if y then WroteBlock client (number value) ∷ [] else []) t)
    go true = wrote_shown b (h.of_block b) h.told t s client value
    go false = s
act_shown b (Read client q ver value) h t s apart legal = go (same_block q b) refl legal
  where
    pinned_or : (o y : Bool) (u : block.History) → same_block q b ≡ y
        → BlockShown b (if y then (if o then pin ver (h.of_block b) else h.of_block b) else h.of_block b) h.told u
        → HistoryShown b (if o then change q (pin ver) h else h) u
    pinned_or true true u same shown =
        subst (λ (p : BlockHistory). BlockShown b p h.told u) (sym (ap (λ y. if y then pin ver (h.of_block b) else h.of_block b) same)) shown
    pinned_or true false u same shown =
        subst (λ (p : BlockHistory). BlockShown b p h.told u) (sym (ap (λ y. if y then pin ver (h.of_block b) else h.of_block b) same)) shown
    pinned_or false true u same shown = shown
    pinned_or false false u same shown = shown

    go : (y : Bool) → same_block q b ≡ y → block.LegalFrom t (if y then ReadBlock client ver (number value) ∷ [] else [])
        → HistoryShown b (if is_by_other client ver (h.of_block q).versions then change q (pin ver) h else h)
        (block.history_after (if y then ReadBlock client ver (number value) ∷ [] else []) t)
    go true same here =
        let one : b ≡ q = same_block_exact q b same in
        subst (λ (x : BlockId). HistoryShown b (if is_by_other client ver (h.of_block x).versions then change q (pin ver) h else h)
        (block.after_act (ReadBlock client ver (number value)) t)) one
        (pinned_or (is_by_other client ver (h.of_block b).versions) true (block.after_act (ReadBlock client ver (number value)) t) same
        (read_shown b (h.of_block b) h.told t s client ver (number value) here.0))
    go false same here = pinned_or (is_by_other client ver (h.of_block q).versions) false t same s
act_shown b (Synced client) h t s apart legal = synced_shown b (h.of_block b) h.told t client (greatest_by client 1 (h.of_block b).versions) s
act_shown b (Fell client flight falls) h t s apart legal = fell_shown b (h.of_block b) h.told t client flight falls s apart.0 apart.1
act_shown b (Back client chain) h t s apart legal = back_shown b h t client chain (h.told client) s (s.falls client) legal.0
act_shown b (Lost node seg) h t s apart legal = s
act_shown b (Filed seg) h t s apart legal = s
act_shown b (Dropped seg) h t s apart legal = s
act_shown b (Answered node item answer) h t s apart legal = s

-- ---- the whole list

-- of acts and those after them, each part is legal where it begins
legal_parts : (acts more : List block.Act) (t : block.History) → block.LegalFrom t (acts ++ more)
    → block.LegalFrom t acts × block.LegalFrom (block.history_after acts t) more
legal_parts [] more t legal = (tt, legal)
legal_parts (act ∷ acts) more t legal =
    let rest = legal_parts acts more (block.after_act act t) legal.1 in
    ((legal.0, rest.0), rest.1)

legal_from : (acts : List Act) (h : History) (made : BlockId → block.History) → AllShown h made → AreApartFrom h acts
    → ((b : BlockId) → block.LegalFrom (made b) (acts_from b h acts)) → AreLegalFrom h acts
legal_from [] h made s apart legal = tt
legal_from (a ∷ acts) h made s apart legal = (
  legal_here a h made s apart.0 (λ b. (parts b).0),
  legal_from acts (after_act a h) (λ b. block.history_after (block_acts b h a) (made b)) (λ b. act_shown b a h (made b) (s b) apart.0 (parts b).0) apart.1
      (λ b. (parts b).1),
)
  where
    parts : (b : BlockId)
        → block.LegalFrom (made b) (block_acts b h a) × block.LegalFrom (block.history_after (block_acts b h a) (made b)) (acts_from b (after_act a h) acts)
    parts b = legal_parts (block_acts b h a) (acts_from b (after_act a h) acts) (made b) (legal b)

begun : AllShown nothing_yet (λ b. block.no_history)
begun b = record { newest = refl; absent = refl; values = λ v x fact. absurd (cc); writers = λ v x fact. absurd (cc); pinned = refl; falls = λ c. refl }

pub are_legal : (acts : List Act) → FallsApart acts → ((b : BlockId) → block.LegalActs (acts_of b acts)) → AreLegal acts
are_legal acts apart legal = legal_from acts nothing_yet (λ b. block.no_history) begun apart legal

-- one block alone is seen where its own acts are legal
shown_from : (b : BlockId) (acts : List Act) (h : History) (t : block.History) → HistoryShown b h t → AreApartFrom h acts
    → block.LegalFrom t (acts_from b h acts) → HistoryShown b (history_after acts h) (block.history_after (acts_from b h acts) t)
shown_from b [] h t s apart legal = s
shown_from b (a ∷ acts) h t s apart legal =
    let rest = acts_from b (after_act a h) acts in
    let parts = legal_parts (block_acts b h a) rest t legal in
    subst (λ (u : block.History). HistoryShown b (history_after acts (after_act a h)) u) (sym (history_through (block_acts b h a) rest t))
    (shown_from b acts (after_act a h) (block.history_after (block_acts b h a) t) (act_shown b a h t s apart.0 parts.0) apart.1 parts.1)

pub are_shown : (acts : List Act) → FallsApart acts → (b : BlockId) → block.LegalActs (acts_of b acts)
    → HistoryShown b (history_after acts nothing_yet) (block.history (acts_of b acts))
are_shown acts apart b legal = shown_from b acts nothing_yet block.no_history (begun b) apart legal
