-- What a client that serves does keeps what it asks for as it is needed: what that says, and that it goes on over several steps.
use Rattle.std.proofs.Common.{◌≡◌, ℕ, List, [], ◌∷◌, Option, Some, None, is_none, refl, sym, ap, subst, ◌∙◌}
use Rattle.std.specs.List.{fold}
use Rattle.xfs_base.specs.declared.block.BlockId.{BlockId}
use Rattle.xfs_base.specs.declared.token.Mode.{Mode}
use Rattle.xfs_base.specs.Modes.{allows}
use Rattle.xfs_base.specs.Steps.{steps}
use Rattle.xfs_base.proofs.Booleans.{contrary}
use Rattle.token_client.specs.declared.held.Fetch.{Fetch}
use Rattle.token_client.specs.declared.held.Held.{Held}
use Rattle.token_client.specs.declared.held.Wanted.{Wanted}
use Rattle.token_client.specs.declared.input.In.{In}
use Rattle.token_client.specs.Transition.{transition}
use Rattle.client_call.specs.declared.call.Call.{Call}
use Rattle.client_serving.specs.declared.serving.Serving.{Serving}
use Rattle.client_serving.specs.Flights.{held_at}
use Rattle.client_serving.specs.Sends.{Done}
use Rattle.file_plan.specs.declared.block_call.BlockCall.{BlockCall}
use Rattle.node_slots.specs.node_tie.Asks.{AsksForCall, needed, needed_by}
use Rattle.node_slots.proofs.node_tie.AsksBlock.{Need, WantSuits, FetchSuits}
use Rattle.node_slots.proofs.node_tie.AsksInputs.{AsksAs, InputSuits, none_asks, transition-asks}

-- the call on blocks of a call
abbrev pub step_of : Option Call → Option BlockCall
step_of None = None
step_of (Some call) = Some call.step

-- the item that isn't answered
abbrev pub open_in : Serving → Option ℕ
open_in s = s.lasting.items.unanswered

-- what is asked for is needed still; the call is at the same call on blocks, and its item as it was
pub record Kept (n : Need) (s t : Serving) : Type 0 where
  pub asks : AsksAs n t.tokens
  pub call : step_of t.call ≡ step_of s.call
  pub item : open_in t ≡ open_in s

abbrev pub Keeps : Need → Serving → Serving → Type 0
Keeps n s t = AsksAs n s.tokens → Kept n s t

module _ (n : Need) where
  pub keeps_same : (s : Serving) → Keeps n s s
  keeps_same s a = record { asks = a; call = refl; item = refl }

  pub keeps_through : (s t u : Serving) → Keeps n s t → Keeps n t u → Keeps n s u
  keeps_through s t u f g a =
      let p : Kept n s t = f a in
      let q : Kept n t u = g p.asks in
      record { asks = q.asks; call = q.call ∙ p.call; item = q.item ∙ p.item }

  -- one step for each item
  pub steps_keep : {A : Type 0} (step : Serving → A → Done) → ((s : Serving) (x : A) → Keeps n s (step s x).state) → (s : Serving) (xs : List A)
      → Keeps n s (steps step s xs).state
  steps_keep step one s [] = keeps_same s
  steps_keep step one s (x ∷ xs) = keeps_through s (step s x).state (steps step (step s x).state xs).state (one s x) (steps_keep step one (step s x).state xs)

  pub fold_keeps : {A : Type 0} (step : Serving → A → Serving) → ((s : Serving) (x : A) → Keeps n s (step s x)) → (s : Serving) (xs : List A)
      → Keeps n s (fold step s xs)
  fold_keeps step one s [] = keeps_same s
  fold_keeps step one s (x ∷ xs) = keeps_through s (step s x) (fold step (step s x) xs) (one s x) (fold_keeps step one (step s x) xs)

  -- the tokens take an input
  pub takes-keeps : (s : Serving) (i : In) → InputSuits n i → Keeps n s (record s { tokens = (transition s.tokens i).state })
  takes-keeps s i fact a = record { asks = transition-asks n s.tokens a i fact; call = refl; item = refl }

-- ---- what a client asks for, and what is needed

abbrev step_needed : Option BlockCall → Need
step_needed None = None
step_needed (Some b) = needed_by b

needed_step : (c : Option Call) → needed c ≡ step_needed (step_of c)
needed_step None = refl
needed_step (Some call) = refl

-- calls at the same call on blocks need the same
pub needed_same : (c d : Option Call) → step_of c ≡ step_of d → needed c ≡ needed d
needed_same c d same = needed_step c ∙ ap step_needed same ∙ sym (needed_step d)

pub closed_same : (c d : Option Call) → step_of c ≡ step_of d → d ≡ None → c ≡ None
closed_same None d same closed = refl
closed_same (Some call) d same closed = contrary (ap is_none same ∙ ap (λ x. is_none (step_of x)) closed)

module _ (s : Serving) where
  want_suits : (p : AsksForCall s) (block : BlockId) (mode : Mode) (w : Option Wanted) → (held_at s block).mode ≡ mode → (held_at s block).want ≡ w
      → WantSuits (needed s.call) block mode w
  want_suits p block mode None held fact = tt
  want_suits p block mode (Some w) held fact = (p.wanted block w fact, ap (λ m. allows m w.mode) (sym held) ∙ p.above block w fact)

  fetch_suits : (p : AsksForCall s) (block : BlockId) (f : Option Fetch) → (held_at s block).fetch ≡ f → FetchSuits (needed s.call) block f
  fetch_suits p block None fact = tt
  fetch_suits p block (Some f) fact = p.fetched block f fact

  -- the tokens of a client that asks for its call ask for what the call needs
  pub asks_as : AsksForCall s → AsksAs (needed s.call) s.tokens
  asks_as p = record {
    sound = p.sound;
    suits = λ b.
        (let h : Held = held_at s b in
        record { want = want_suits p b h.mode h.want refl refl; fetch = fetch_suits p b h.fetch refl });
  }

  pub asks_for : AsksAs (needed s.call) s.tokens → (open_in s ≡ None → s.call ≡ None) → AsksForCall s
  asks_for a waits = record {
    sound = a.sound;
    wanted = λ b w fact. (subst (WantSuits (needed s.call) b (held_at s b).mode) fact (a.suits b).want).0;
    above = λ b w fact. (subst (WantSuits (needed s.call) b (held_at s b).mode) fact (a.suits b).want).1;
    fetched = λ b f fact. subst (FetchSuits (needed s.call) b) fact (a.suits b).fetch;
    waits = waits;
  }

  -- where none asks
  pub asks_none : AsksAs None s.tokens → (open_in s ≡ None → s.call ≡ None) → AsksForCall s
  asks_none a = asks_for (none_asks (needed s.call) s.tokens a)

-- what keeps what is asked for keeps that it is asked for the call
pub kept : (s t : Serving) → Keeps (needed s.call) s t → AsksForCall s → AsksForCall t
kept s t f p =
    let k : Kept (needed s.call) s t = f (asks_as s p) in
    asks_for t (subst (λ n. AsksAs n t.tokens) (needed_same s.call t.call (sym k.call)) k.asks)
    (λ none. closed_same t.call s.call k.call (p.waits (sym k.item ∙ none)))
