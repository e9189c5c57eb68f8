-- Falls are apart in every run: while a client serves no fall of it waits, and it falls only then.
use Rattle.std.specs.Prelude.{if◌then◌else◌}
use Rattle.std.proofs.Common.{◌≡◌, ℕ, ◌==◌, Bool, true, false, List, [], ◌∷◌, ◌++◌, Option, refl, sym, ap, subst, ◌∙◌, append-nil}
use Rattle.std.proofs.lemmas.Bool.{ne_eqb}
use Rattle.xfs_base.specs.declared.segment.SegName.{SegName}
use Rattle.xfs_base.proofs.Booleans.{contrary, by_test, equal_itself}
use Rattle.version_model.specs.declared.act.Act.{Act}
use Rattle.version_model.specs.declared.act.Act.TheVariants as act
use Rattle.version_model.specs.declared.act.Fall.{Fall}
use Rattle.version_model.specs.declared.history.FallTold.{FallTold}
use Rattle.version_model.specs.Effects.{change, pin, settle, holds_flight, after_act, history_after}
use Rattle.version_model.specs.History.{History, is_by_other, nothing_yet}
use Rattle.version_model.specs.Legal.{NamesNoBlockTwice}
use Rattle.version_model.specs.Falls.{FallsApart, IsApart}
use Rattle.act_tie.proofs.Falling.{settled_told}
use Rattle.version_model.proofs.Onward.{history_through}
use Rattle.act_tie.proofs.Onward.{apart_on}
use Rattle.token_client.specs.declared.input.In as inputs
use Rattle.token_client.specs.declared.input.In.TheVariants as input
use Rattle.token_client.specs.Held.{may_write}
use Rattle.token_client.specs.State.{TokensState, held_of}
use Rattle.token_protocol.specs.Basics.{put}
use Rattle.token_protocol.proofs.Refining.{put_each}
use Rattle.token_law.specs.Net.{Net, Happens, Runs, opening, acts_by}
use Rattle.token_law.specs.Net.Happens.{Acts, Elsewhere, Reports, GetsCopy, GetsOwn, Declines, GetsRecall, GetsForward, GetsSupply, Fetches, Reads, Syncs, Seals, Files, GetsDeltas, GetsWant, GetsGave, Ticks, Crashes, Returns, SealsCopies, FilesCopies, Reopens, Activates, Says}
use Rattle.token_law.specs.Net.Runs.{Begun, On}
use Rattle.token_law.specs.Owed.{IsNeutral}

pub record FallsKept (up : ℕ → Bool) (acts : List Act) : Type 0 where
  pub apart : FallsApart acts
  pub waits : (c : ℕ) → up c ≡ true → (history_after acts nothing_yet).told c ≡ []

-- one more act
kept_on : (up now : ℕ → Bool) (acts : List Act) (a : Act) → FallsKept up acts → IsApart a (history_after acts nothing_yet)
    → ((c : ℕ) → now c ≡ true → (after_act a (history_after acts nothing_yet)).told c ≡ []) → FallsKept now (acts ++ a ∷ [])
kept_on up now acts a i apart waits = record {
  apart = apart_on acts a nothing_yet i.apart apart;
  waits = λ c serves. ap (λ (h : History). h.told c) (history_through acts (a ∷ []) nothing_yet) ∙ waits c serves;
}

-- an act that changes no fall
wrote_kept : (up : ℕ → Bool) (acts : List Act) (c : ℕ) (s : TokensState) (x : inputs.In) → FallsKept up acts → FallsKept up (acts ++ acts_by c s x)
wrote_kept up acts c s (input.Wrote block value) i =
    by_test (λ (more : List Act). FallsKept up (acts ++ more)) (may_write (held_of s.blocks block)) (act.Wrote c block value ∷ []) []
    (λ _. kept_on up up acts (act.Wrote c block value) i tt i.waits) (λ _. subst (FallsKept up) (sym (append-nil acts)) i)
wrote_kept up acts c s (input.Need block mode) i = subst (FallsKept up) (sym (append-nil acts)) i
wrote_kept up acts c s (input.Granted block stamp inc req mode entry) i = subst (FallsKept up) (sym (append-nil acts)) i
wrote_kept up acts c s (input.Supplied block stamp inc req ver value) i = subst (FallsKept up) (sym (append-nil acts)) i
wrote_kept up acts c s (input.Forwarded block stamp ver) i = subst (FallsKept up) (sym (append-nil acts)) i
wrote_kept up acts c s (input.Recalled block stamp keep) i = subst (FallsKept up) (sym (append-nil acts)) i
wrote_kept up acts c s (input.Settled block ver) i = subst (FallsKept up) (sym (append-nil acts)) i
wrote_kept up acts c s (input.Fetched block value) i = subst (FallsKept up) (sym (append-nil acts)) i
wrote_kept up acts c s (input.Evict block) i = subst (FallsKept up) (sym (append-nil acts)) i
wrote_kept up acts c s (input.Reask block) i = subst (FallsKept up) (sym (append-nil acts)) i
wrote_kept up acts c s (input.Quit block) i = subst (FallsKept up) (sym (append-nil acts)) i
wrote_kept up acts c s (input.Promise slot epoch) i = subst (FallsKept up) (sym (append-nil acts)) i
wrote_kept up acts c s input.Tick i = subst (FallsKept up) (sym (append-nil acts)) i

said_kept : (up : ℕ → Bool) (acts : List Act) (a : Act) → IsNeutral a → FallsKept up acts → FallsKept up (acts ++ a ∷ [])
said_kept up acts (act.Wrote client block value) neutral i = absurd neutral
said_kept up acts (act.Read client block ver value) neutral i = absurd neutral
said_kept up acts (act.Synced client) neutral i = absurd neutral
said_kept up acts (act.Fell client flight falls) neutral i = absurd neutral
said_kept up acts (act.Back client chain) neutral i = absurd neutral
said_kept up acts (act.Lost node seg) neutral i = kept_on up up acts (act.Lost node seg) i tt i.waits
said_kept up acts (act.Filed seg) neutral i = kept_on up up acts (act.Filed seg) i tt i.waits
said_kept up acts (act.Dropped seg) neutral i = kept_on up up acts (act.Dropped seg) i tt i.waits
said_kept up acts (act.Answered node item answer) neutral i = kept_on up up acts (act.Answered node item answer) i tt i.waits

-- settling the falls of one client leaves those that wait
settle_told : (chain : List SegName) (ts : List FallTold) (h : History) → (settle chain ts h).told ≡ h.told
settle_told chain [] h = refl
settle_told chain (t ∷ ts) h = settle_told chain ts _ ∙ settled_told (holds_flight chain t.flight) t.falls h

fell_kept : (up : ℕ → Bool) (acts : List Act) (c : ℕ) (flight : Option (ℕ × ℕ)) (falls : List Fall) → up c ≡ true → NamesNoBlockTwice falls → FallsKept up acts
    → FallsKept (put up c false) (acts ++ act.Fell c flight falls ∷ [])
fell_kept up acts c flight falls serves once i =
    let h = history_after acts nothing_yet in
    let t : FallTold = record { flight = flight; falls = falls } in
    kept_on up (put up c false) acts (act.Fell c flight falls) i (i.waits c serves, once)
    (put_each (λ d y. y ≡ true → (if d == c then h.told d ++ t ∷ [] else h.told d) ≡ []) up c false contrary
    (λ d other up_. ap (λ (y : Bool). if y then h.told d ++ t ∷ [] else h.told d) (ne_eqb d c other) ∙ i.waits d up_))

back_kept : (up : ℕ → Bool) (acts : List Act) (c : ℕ) (chain : List SegName) → FallsKept up acts → FallsKept (put up c true) (acts ++ act.Back c chain ∷ [])
back_kept up acts c chain i =
    let h = history_after acts nothing_yet in
    let g = settle chain (h.told c) h in
    kept_on up (put up c true) acts (act.Back c chain) i tt
    (put_each (λ d y. y ≡ true → (if d == c then [] else g.told d) ≡ []) up c true (λ _. ap (λ (y : Bool). if y then [] else g.told c) (equal_itself c))
    (λ d other up_. ap (λ (y : Bool). if y then [] else g.told d) (ne_eqb d c other) ∙ ap (λ (f : ℕ → List FallTold). f d) (settle_told chain (h.told c) h)
    ∙ i.waits d up_))

pub falls_keep : (logs : Bool) (members part : ℕ) (n m : Net) → Happens logs members part n m → FallsKept n.up n.acts → FallsKept m.up m.acts
falls_keep logs members part n m (Acts c end x serves own) i = wrote_kept n.up n.acts c (n.tokens c) x i
falls_keep logs members part n m (Elsewhere c end x serves other) i = i
falls_keep logs members part n m (Reports c end serves) i = i
falls_keep logs members part n m (GetsCopy c end block stamp inc req entry serves fact) i = i
falls_keep logs members part n m (GetsOwn c end block stamp inc req entry value serves fact accepts room) i =
    kept_on n.up n.up n.acts (act.Wrote c block value) i tt i.waits
falls_keep logs members part n m (Declines c end block stamp inc req entry serves fact accepts) i = i
falls_keep logs members part n m (GetsRecall c end block stamp keep serves fact) i = i
falls_keep logs members part n m (GetsForward c other block stamp inc req ver value pos less fact up serves held) i = i
falls_keep logs members part n m (GetsSupply c end block stamp inc req ver value serves fact) i = i
falls_keep logs members part n m (Fetches c end block value serves there) i = i
falls_keep logs members part n m (Reads c block value pos less up held fact) i =
    let h = history_after n.acts nothing_yet in
    let ver = (held_of (n.tokens c).blocks block).ver in
    kept_on n.up n.up n.acts (act.Read c block ver value) i tt
    (λ d up_. by_test (λ (g : History). g.told d ≡ []) (is_by_other c ver (h.of_block block).versions) (change block (pin ver) h) h (λ _. i.waits d up_)
    (λ _. i.waits d up_))
falls_keep logs members part n m (Syncs c pos less up clean) i = kept_on n.up n.up n.acts (act.Synced c) i tt i.waits
falls_keep logs members part n m (Seals c rows pos less up free newest) i = i
falls_keep logs members part n m (Files c pos less up flies) i = i
falls_keep logs members part n m (GetsDeltas e s log first upto rows at known some covers) i = i
falls_keep logs members part n m (GetsWant e s c inc req again block mode end at fact) i = i
falls_keep logs members part n m (GetsGave e s c block stamp end at fact) i = i
falls_keep logs members part n m (Ticks e s at) i = i
falls_keep logs members part n m (Crashes c flight falls pos less up once so) i = fell_kept n.up n.acts c flight falls up once i
falls_keep logs members part n m (Returns c inc epochs chain count pos less up later rises flies) i = back_kept n.up n.acts c chain i
falls_keep logs members part n m (SealsCopies l rows out free originals) i = i
falls_keep logs members part n m (FilesCopies l out flies) i = i
falls_keep logs members part n m (Reopens l adopted count out flies) i = i
falls_keep logs members part n m (Activates e index applied rows ends order none all each sent gathered) i = i
falls_keep logs members part n m (Says a neutral) i = said_kept n.up n.acts a neutral i

pub falls_kept : (logs : Bool) (members part : ℕ) (n : Net) → Runs logs members part opening n → FallsKept n.up n.acts
falls_kept logs members part n r = go opening n r (record { apart = tt; waits = λ c _. refl })
  where
    go : (a m : Net) → Runs logs members part a m → FallsKept a.up a.acts → FallsKept m.up m.acts
    go a m Begun i = i
    go a m (On {m = k} rs h) i = falls_keep logs members part k m h (go a k rs i)
