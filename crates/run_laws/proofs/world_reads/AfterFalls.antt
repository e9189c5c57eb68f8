-- Falls of a client are told, and settled, in its own events alone: in those of other nodes no act is of them.
use Rattle.std.proofs.Common.{◌≡◌, ◌⊎◌, ⊎_elim, ℕ, Bool, true, false, List, [], ◌∷◌, ◌++◌, drop, length, inl, inr, append-nil, refl, sym, ap, subst, ◌∙◌}
use Rattle.std.proofs.Math.Seq.{drop-append_seam}
use Rattle.std.proofs.lemmas.List.{append_assoc}
use Rattle.std.proofs.lemmas.List.Elements.{recursion_from_All}
use Rattle.std.specs.List.{AllByRecursion}
use Rattle.node_base.specs.Effects.{acts_of}
use Rattle.node_base.specs.declared.effects.Effect.{Effect}
use Rattle.client_node.specs.declared.phase.Phase.{Phase}
use Rattle.client_node.specs.Phases.{lasting_of}
use Rattle.node_slots.proofs.node_tie.StoreFrames.{acts_are}
use Rattle.node_slots.specs.node_tie.ClientEvents.{ClientActs, ClientDid, ClientGoes}
use Rattle.run_laws.specs.reopening_law.Falls.{IsAside}
use Rattle.token_client.specs.Held.{may_write}
use Rattle.token_client.specs.State.{TokensState, held_of}
use Rattle.token_client.specs.declared.input.In as inputs
use Rattle.token_client.specs.declared.input.In.TheVariants as input
use Rattle.token_law.specs.Net.{Net, Happens, Runs, acts_by}
use Rattle.token_law.specs.Net.Happens.{Acts, Elsewhere, Reports, GetsCopy, GetsOwn, Declines, GetsRecall, GetsForward, GetsSupply, Fetches, Reads, Syncs, Seals, Files, GetsDeltas, GetsWant, GetsGave, Ticks, Crashes, Returns, SealsCopies, FilesCopies, Reopens, Activates, Says}
use Rattle.token_law.specs.Net.Runs.{Begun, On}
use Rattle.token_law.specs.Owed.{IsNeutral}
use Rattle.token_tie.proofs.Frames.{put_here, put_there}
use Rattle.version_model.specs.declared.act.Act.{Act}
use Rattle.version_model.specs.declared.act.Act.TheVariants as act
use Rattle.run_laws.proofs.world_law.OtherTurns.{equal_or_not}
use Rattle.xfs_base.proofs.Booleans.{by_test, contrary}
use Rattle.xfs_base.specs.declared.node.NodeId.TheVariants.{Client}
use Rattle.xfs_base.proofs.Alls.{all_append}

-- ---- lists

all_front : {X : Type 0} (P : X → Type 0) (xs ys : List X) → AllByRecursion P (xs ++ ys) → AllByRecursion P xs
all_front P [] ys all = tt
all_front P (x ∷ xs) ys all = (all.0, all_front P xs ys all.1)

all_back : {X : Type 0} (P : X → Type 0) (xs ys : List X) → AllByRecursion P (xs ++ ys) → AllByRecursion P ys
all_back P [] ys all = all
all_back P (x ∷ xs) ys all = all_back P xs ys all.1

same_rest : {X : Type 0} (xs ys zs : List X) → xs ++ ys ≡ xs ++ zs → ys ≡ zs
same_rest xs ys zs fact = sym (drop-append_seam xs ys) ∙ (ap (drop (length xs)) fact ∙ drop-append_seam xs zs)

-- an act that changes no history is of no client's fall
neutral_aside : (e : ℕ) (a : Act) → IsNeutral a → IsAside e a
neutral_aside e (act.Wrote client block value) h = tt
neutral_aside e (act.Read client block ver value) h = tt
neutral_aside e (act.Synced client) h = tt
neutral_aside e (act.Fell client flight falls) h = absurd h
neutral_aside e (act.Back client chain) h = absurd h
neutral_aside e (act.Lost node seg) h = tt
neutral_aside e (act.Filed seg) h = tt
neutral_aside e (act.Dropped seg) h = tt
neutral_aside e (act.Answered node item answer) h = tt

pub all_aside : (e : ℕ) (acts : List Act) → AllByRecursion IsNeutral acts → AllByRecursion (IsAside e) acts
all_aside e [] all = tt
all_aside e (a ∷ acts) all = (neutral_aside e a all.0, all_aside e acts all.1)

-- ---- runs of the small world of tokens

module _ (e : ℕ) where
  -- client e doesn't fall by it
  abbrev pub IsNoFall : Act → Type 0
  IsNoFall (act.Fell client flight falls) = client ≡ e → ⊥
  IsNoFall _ = Unit {0}

  -- what is acted from one moment to another; where client e doesn't fall, nothing of its falls is acted, or it serves then
  pub record Leaves (n m : Net) : Type 0 where
    pub more : List Act
    pub acts_are : m.acts ≡ n.acts ++ more
    pub leaves : AllByRecursion IsNoFall more → ((m.up e ≡ n.up e) × AllByRecursion (IsAside e) more) ⊎ (m.up e ≡ true)

  nothing : (n m : Net) → m.acts ≡ n.acts → m.up ≡ n.up → Leaves n m
  nothing n m acts up = record { more = []; acts_are = acts ∙ sym (append-nil n.acts); leaves = λ none. inl (ap (λ f. f e) up, tt) }

  some_acts : (n m : Net) (more : List Act) → m.acts ≡ n.acts ++ more → m.up ≡ n.up → AllByRecursion (IsAside e) more → Leaves n m
  some_acts n m more acts up aside = record { more = more; acts_are = acts; leaves = λ none. inl (ap (λ f. f e) up, aside) }

  wrote_aside : (c : ℕ) (s : TokensState) (i : inputs.In) → AllByRecursion (IsAside e) (acts_by c s i)
  wrote_aside c s (input.Wrote block value) =
      by_test (AllByRecursion (IsAside e)) (may_write (held_of s.blocks block)) (act.Wrote c block value ∷ []) [] (λ t. (tt, tt)) (λ t. tt)
  wrote_aside c s (input.Need block mode) = tt
  wrote_aside c s (input.Granted block stamp inc req mode entry) = tt
  wrote_aside c s (input.Supplied block stamp inc req ver value) = tt
  wrote_aside c s (input.Forwarded block stamp ver) = tt
  wrote_aside c s (input.Recalled block stamp keep) = tt
  wrote_aside c s (input.Settled block ver) = tt
  wrote_aside c s (input.Fetched block value) = tt
  wrote_aside c s (input.Evict block) = tt
  wrote_aside c s (input.Reask block) = tt
  wrote_aside c s (input.Quit block) = tt
  wrote_aside c s (input.Promise slot epoch) = tt
  wrote_aside c s input.Tick = tt

  flip : (c : ℕ) → (c ≡ e → ⊥) → e ≡ c → ⊥
  flip c other same = other (sym same)

  module _ (logs : Bool) (members part : ℕ) where
    happens_leave : (n m : Net) → Happens logs members part n m → Leaves n m
    happens_leave n m (Acts c end x serves own) = some_acts n m (acts_by c (n.tokens c) x) refl refl (wrote_aside c (n.tokens c) x)
    happens_leave n m (Elsewhere c end x serves other) = nothing n m refl refl
    happens_leave n m (Reports c end serves) = nothing n m refl refl
    happens_leave n m (GetsCopy c end block stamp inc req entry serves fact) = nothing n m refl refl
    happens_leave n m (GetsOwn c end block stamp inc req entry value serves fact accepts room) =
        some_acts n m (act.Wrote c block value ∷ []) refl refl (tt, tt)
    happens_leave n m (Declines c end block stamp inc req entry serves fact accepts) = nothing n m refl refl
    happens_leave n m (GetsRecall c end block stamp keep serves fact) = nothing n m refl refl
    happens_leave n m (GetsForward c other block stamp inc req ver value pos less fact up serves held) = nothing n m refl refl
    happens_leave n m (GetsSupply c end block stamp inc req ver value serves fact) = nothing n m refl refl
    happens_leave n m (Fetches c end block value serves there) = nothing n m refl refl
    happens_leave n m (Reads c block value pos less up held fact) =
        some_acts n m (act.Read c block (held_of (n.tokens c).blocks block).ver value ∷ []) refl refl (tt, tt)
    happens_leave n m (Syncs c pos less up clean) = some_acts n m (act.Synced c ∷ []) refl refl (tt, tt)
    happens_leave n m (Seals c rows pos less up free newest) = nothing n m refl refl
    happens_leave n m (Files c pos less up flies) = nothing n m refl refl
    happens_leave n m (GetsDeltas d s log first upto rows at known some covers) = nothing n m refl refl
    happens_leave n m (GetsWant d s c inc req again block mode end at fact) = nothing n m refl refl
    happens_leave n m (GetsGave d s c block stamp end at fact) = nothing n m refl refl
    happens_leave n m (Ticks d s at) = nothing n m refl refl
    happens_leave n m (Crashes c flight falls pos less up once so) = record {
      more = act.Fell c flight falls ∷ [];
      acts_are = refl;
      leaves = λ none. inl (put_there n.up c false e (flip c none.0), (none.0, tt));
    }
    happens_leave n m (Returns c inc epochs chain count pos less up later rises flies) = record {
      more = act.Back c chain ∷ [];
      acts_are = refl;
      leaves = λ none. ⊎_elim (λ same. inr (subst (λ x. m.up x ≡ true) same (put_here n.up c true)))
          (λ other. inl (put_there n.up c true e (flip c other), (other, tt))) (equal_or_not c e);
    }
    happens_leave n m (SealsCopies l rows out free originals) = nothing n m refl refl
    happens_leave n m (FilesCopies l out flies) = nothing n m refl refl
    happens_leave n m (Reopens l adopted count out flies) = nothing n m refl refl
    happens_leave n m (Activates d index applied rows ends order none all each sent gathered) = nothing n m refl refl
    happens_leave n m (Says a neutral) = some_acts n m (a ∷ []) refl refl (neutral_aside e a neutral, tt)

    then_leave : (n k m : Net) → Leaves n k → Leaves k m → Leaves n m
    then_leave n k m a b = record {
      more = a.more ++ b.more;
      acts_are = b.acts_are ∙ (ap (λ xs. xs ++ b.more) a.acts_are ∙ append_assoc n.acts a.more b.more);
      leaves = λ none. by none (a.leaves (all_front IsNoFall a.more b.more none)) (b.leaves (all_back IsNoFall a.more b.more none));
    }
      where
        by : AllByRecursion IsNoFall (a.more ++ b.more) → ((k.up e ≡ n.up e) × AllByRecursion (IsAside e) a.more) ⊎ (k.up e ≡ true)
            → ((m.up e ≡ k.up e) × AllByRecursion (IsAside e) b.more) ⊎ (m.up e ≡ true)
            → ((m.up e ≡ n.up e) × AllByRecursion (IsAside e) (a.more ++ b.more)) ⊎ (m.up e ≡ true)
        by none x (inr up) = inr up
        by none (inr up) (inl y) = inr (y.0 ∙ up)
        by none (inl x) (inl y) = inl (y.0 ∙ x.0, all_append (IsAside e) a.more b.more x.1 y.1)

    runs_leave : (n m : Net) → Runs logs members part n m → Leaves n m
    runs_leave n m Begun = nothing n m refl refl
    runs_leave n m (On {m = k} runs happens) = then_leave n k m (runs_leave n k runs) (happens_leave k m happens)

    -- ---- an event of another client

    pub client_aside : (limit c : ℕ) (n : Net) (p q : Phase) (outs : List Effect) → (go : ClientGoes logs members part limit c n p q outs) → (c ≡ e → ⊥)
        → n.up e ≡ false → AllByRecursion (IsAside e) (acts_of (Client c) outs)
    client_aside limit c n p q outs go other down =
        subst (AllByRecursion (IsAside e)) (sym same) (by (r.leaves (subst (AllByRecursion IsNoFall) same none)))
      where
        r : Leaves n go.next
        r = runs_leave n go.next go.runs

        same : acts_of (Client c) outs ≡ r.more
        same = same_rest n.acts (acts_of (Client c) outs) r.more (sym go.acts ∙ r.acts_are)

        each : (a : Act) → ClientActs part c n go.next.sent (lasting_of q).inc q a → IsNoFall a
        each (act.Fell client flight falls) h = λ fact. other (sym h.0 ∙ fact)
        each _ h = tt

        none : AllByRecursion IsNoFall (acts_of (Client c) outs)
        none = recursion_from_All IsNoFall (acts_of (Client c) outs)
            (acts_are IsNoFall (ClientDid part c n go.next.sent (lasting_of q).inc q) (Client c) (λ item answer. tt) (λ seg. tt) each outs
            (recursion_from_All (ClientDid part c n go.next.sent (lasting_of q).inc q) outs go.does))

        by : ((go.next.up e ≡ n.up e) × AllByRecursion (IsAside e) r.more) ⊎ (go.next.up e ≡ true) → AllByRecursion (IsAside e) r.more
        by (inl x) = x.1
        by (inr up) = contrary (sym down ∙ (sym (go.others e (flip c other)).1 ∙ up))
