-- Moves of the items of a node, one behind another; and what a node of some kind does that keeps its number and makes such moves.
use Rattle.std.proofs.Common.{◌≡◌, ℕ, Bool, cond, List, [], ◌∷◌, ◌++◌, append_assoc, Option, Some, None, ◌+◌, inl, inr, refl, sym, subst, ◌∙◌}
use Rattle.std.specs.List.{AllByRecursion}
use Rattle.delta_feed.specs.declared.output.Out.{Out as RangeOut}
use Rattle.delta_feed.specs.declared.output.Out.TheVariants.{Range}
use Rattle.delta_feed.specs.FeedState.{FeedState}
use Rattle.delta_feed.specs.Transition.{feed_push, feed_tick}
use Rattle.log_owner.specs.declared.promised.Managers.{Managers}
use Rattle.log_owner.specs.Sending.{sending_push, push_all, range}
use Rattle.node_base.specs.Beginning.{items_answer, is_left, next_item, items_wait}
use Rattle.node_base.specs.declared.effects.Effect.{Effect}
use Rattle.node_base.specs.declared.effects.Effect.TheVariants.{Send, Answer as Answers, Lose, Does}
use Rattle.node_base.specs.declared.items.Items.{Items}
use Rattle.token_protocol.specs.Basics.{In}
use Rattle.version_model.specs.declared.answer.Answer.{Answer}
use Rattle.version_model.specs.declared.answer.Answer.TheVariants as answer
use Rattle.wire_msg.specs.declared.packet.Do.{Do}
use Rattle.xfs_base.proofs.Alls.{all_append, all_map, all_weaker}
use Rattle.xfs_base.proofs.Booleans.{by_test}
use Rattle.xfs_base.specs.declared.segment.SegName.{SegName}
use Rattle.xfs_base.specs.Steps.{Stepped, saying, steps, still}
use Rattle.serving_moves.specs.item_moves.Moves.{AllPlain, Begun, IsAside, IsFiling, IsSilent, MayAct, Event, IsPlain, IsPrompt, ItemsStay, Move, Moves, Losses}
use Rattle.serving_moves.proofs.item_moves.Moves.{IsBusy}
use Rattle.version_model.specs.declared.act.Act.{Act}
use Rattle.version_model.specs.declared.act.Act.TheVariants as act
use Rattle.serving_moves.specs.item_moves.Moves.Begun.{AtOnce, Waits}
use Rattle.serving_moves.specs.item_moves.Moves.Event.{GoesOn}
use Rattle.serving_moves.specs.item_moves.Moves.Move.{Stays, Ends, Loses}
use Rattle.serving_moves.specs.item_moves.Moves.Losses.{Silent, Telling, Reading, Answering, Returning}
use Rattle.serving_moves.specs.item_moves.Moves.Moves.{Last, Then}

pub in_behind : {X : Type 0} (x : X) (xs ys : List X) → In x ys → In x (xs ++ ys)
in_behind x [] ys fact = fact
in_behind x (y ∷ xs) ys fact = inr (in_behind x xs ys fact)

-- ---- items that stay

pub same : (items : Items) → ItemsStay items items
same items = record { works = refl; begun = refl; waits = λ item fact. fact }

pub stay_then : (a b c : Items) → ItemsStay a b → ItemsStay b c → ItemsStay a c
stay_then a b c x y = record { works = y.works ∙ x.works; begun = y.begun ∙ x.begun; waits = λ item fact. x.waits item (y.waits item fact) }

pub no_item : (item : ℕ) → None ≡ Some item → ⊥
no_item item fact = cc

pub one_number : (a b : ℕ) → Some a ≡ Some b → a ≡ b
one_number a b fact = cc

pub next_is : (items : Items) (number : ℕ) → next_item items ≡ Some number → number ≡ items.begun + 1
next_is items number =
    by_test (λ (o : Option ℕ). o ≡ Some number → number ≡ items.begun + 1) (is_left items) (Some (items.begun + 1)) None
    (λ _ fact. sym (one_number (items.begun + 1) number fact)) (λ _ fact. absurd (no_item number fact))

pub none_open : (items : Items) → ItemsStay items (items_answer items)
none_open items = record { works = refl; begun = refl; waits = λ item fact. absurd (no_item item fact) }

-- ---- what answers nothing

-- where no loss may be told, none is
pub no_loss_told : (outs : List Effect) (name : SegName) → AllPlain Silent outs → In (Lose name) outs → ⊥
no_loss_told [] name plain fact = fact
no_loss_told (Send to b ∷ outs) name plain (inl e) = absurd cc
no_loss_told (Send to b ∷ outs) name plain (inr fact) = no_loss_told outs name plain.1 fact
no_loss_told (Answers item a ∷ outs) name plain fact = absurd plain.0
no_loss_told (Lose seg ∷ outs) name plain fact = absurd plain.0
no_loss_told (Does a ∷ outs) name plain (inl e) = absurd cc
no_loss_told (Does a ∷ outs) name plain (inr fact) = no_loss_told outs name plain.1 fact

aside_silent : (a : Act) → IsAside a → IsSilent a
aside_silent (act.Filed seg) aside = tt
aside_silent (act.Dropped seg) aside = tt
aside_silent _ aside = absurd aside

pub filing_aside : (a : Act) → IsFiling a → IsAside a
filing_aside (act.Filed seg) filing = tt
filing_aside _ filing = absurd filing

-- whatever it may act answers nothing
pub may_silent : (losses : Losses) (a : Act) → MayAct losses a → IsSilent a
may_silent Silent a may = aside_silent a may
may_silent Telling a may = aside_silent a (filing_aside a may)
may_silent Reading a may = aside_silent a may
may_silent Answering a may = may
may_silent Returning a may = may

plain_more : (losses : Losses) (x : Effect) → IsPlain losses x → IsPlain Answering x
plain_more losses (Send to said) plain = tt
plain_more losses (Answers item a) plain = plain
plain_more losses (Lose name) plain = tt
plain_more losses (Does a) plain = may_silent losses a plain

returning_plain : (x : Effect) → IsPlain Silent x → IsPlain Returning x
returning_plain (Send to said) plain = tt
returning_plain (Answers item a) plain = plain
returning_plain (Lose name) plain = plain
returning_plain (Does a) plain = aside_silent a plain

-- and where a client returns
pub all_returning : (outs : List Effect) → AllPlain Silent outs → AllPlain Returning outs
all_returning outs plain = all_weaker (IsPlain Silent) (IsPlain Returning) returning_plain outs plain

-- what is plain is so where more may be told
pub all_plain_more : (losses : Losses) (outs : List Effect) → AllPlain losses outs → AllPlain Answering outs
all_plain_more losses outs plain = all_weaker (IsPlain losses) (IsPlain Answering) (plain_more losses) outs plain

range_plain : (losses : Losses) (managers : Managers) (x : RangeOut) → IsPlain losses (range managers x)
range_plain losses managers (Range slot first upto rows) = tt

pub pushed_plain : (losses : Losses) (managers : Managers) (feed : FeedState) (slot : ℕ) → AllPlain losses (sending_push managers feed slot)
pushed_plain losses managers feed slot = all_map (IsPlain losses) (range managers) (range_plain losses managers) (feed_push feed slot)

pub all_pushed_plain : (losses : Losses) (managers : Managers) (feed : FeedState) → AllPlain losses (push_all managers feed)
all_pushed_plain losses managers feed = all_map (IsPlain losses) (range managers) (range_plain losses managers) (feed_tick feed)

pub all_steps : {S O A : Type 0} (step : S → A → Stepped S O) (P : O → Type 0) → ((s : S) (x : A) → AllByRecursion P (step s x).outs)
    → (s : S) (xs : List A) → AllByRecursion P (steps step s xs).outs
all_steps step P each s [] = tt
all_steps step P each s (x ∷ xs) = all_append P (step s x).outs (steps step (step s x).state xs).outs (each s x) (all_steps step P each (step s x).state xs)

-- ---- lists of moves

module _ (losses : Losses) (J : Answer → Type 0) where
  move_stays : (before after : Items) (outs : List Effect) → Move losses J before outs after → ItemsStay before after
  move_stays before after outs (Stays stay plain) = stay
  move_stays before after outs (Ends a so) = none_open before
  move_stays before after outs (Loses name said may plain among) = none_open before

  pub moves_then : (a b c : Items) (xs ys : List Effect) → Moves losses J a xs b → Moves losses J b ys c → Moves losses J a (xs ++ ys) c
  moves_then a b c xs ys (Last move) more = Then b xs ys move more
  moves_then a b c xs ys (Then between now rest move behind) more =
      subst (λ (outs : List Effect). Moves losses J a outs c) (sym (append_assoc now rest ys))
      (Then between now (rest ++ ys) move (moves_then between b c rest ys behind more))

  -- the items stay over moves, but that the open one may be answered
  pub moves_stay : (before after : Items) (outs : List Effect) → Moves losses J before outs after → ItemsStay before after
  moves_stay before after outs (Last move) = move_stays before after outs move
  moves_stay before after outs (Then between now more move rest) =
      stay_then before between after (move_stays before between now move) (moves_stay between after more rest)

-- of more answers
module _ (losses : Losses) (J L : Answer → Type 0) (each : (a : Answer) → J a → L a) where
  move_of : (before after : Items) (outs : List Effect) → Move losses J before outs after → Move losses L before outs after
  move_of before after outs (Stays stay plain) = Stays stay plain
  move_of before after outs (Ends a so) = Ends a (each a so)
  move_of before after outs (Loses name said may plain among) = Loses name said may plain among

  pub moves_of : (before after : Items) (outs : List Effect) → Moves losses J before outs after → Moves losses L before outs after
  moves_of before after outs (Last move) = Last (move_of before after outs move)
  moves_of before after outs (Then between now more move rest) =
      Then between now more (move_of before between now move) (moves_of between after more rest)

  module _ (K M : Answer → Type 0) (prompt : (a : Answer) → K a → M a) (items : Items) (number : ℕ) where
    pub begun_of : (after : Items) (outs : List Effect) → Begun losses J K items number outs after → Begun losses L M items number outs after
    begun_of after outs (AtOnce a first more so plain rest) = AtOnce a first more (prompt a so) plain rest
    begun_of after outs (Waits moves) = Waits (moves_of (items_wait items number) after outs moves)

-- ---- what a node does

-- its number stays, and such moves are made of its items
pub record Goes (losses : Losses) (J : Answer → Type 0) (S : Type 0) (items : S → Items) (number : S → ℕ) (s : S) (d : Stepped S Effect) : Type 0 where
  pub its_number : number d.state ≡ number s
  pub moves : Moves losses J (items s) d.outs (items d.state)

module _ {losses : Losses} {J : Answer → Type 0} {S : Type 0} {items : S → Items} {number : S → ℕ} where
  pub plainly : (s : S) (d : Stepped S Effect) → number d.state ≡ number s → ItemsStay (items s) (items d.state) → AllPlain losses d.outs
      → Goes losses J S items number s d
  plainly s d same_number stay plain = record { its_number = same_number; moves = Last (Stays stay plain) }

  pub rests : (s : S) → Goes losses J S items number s (still s)
  rests s = plainly s (still s) refl (same (items s)) tt

  pub then_goes : (s : S) (d x : Stepped S Effect) → Goes losses J S items number s d → Goes losses J S items number d.state x
      → Goes losses J S items number s (saying d.outs x)
  then_goes s d x a b = record {
    its_number = b.its_number ∙ a.its_number;
    moves = moves_then losses J (items s) (items d.state) (items x.state) d.outs x.outs a.moves b.moves;
  }

  -- from one with the same items
  pub from_goes : (s t : S) (d : Stepped S Effect) → number t ≡ number s → ItemsStay (items s) (items t) → Goes losses J S items number t d
      → Goes losses J S items number s d
  from_goes s t d same_number stay g = then_goes s (still t) d (plainly s (still t) same_number stay tt) g

  -- what is said first is plain
  pub first_goes : (s : S) (outs : List Effect) (x : Stepped S Effect) → AllPlain losses outs → Goes losses J S items number s x
      → Goes losses J S items number s (saying outs x)
  first_goes s outs x plain g =
      then_goes s (record { state = s; outs = outs }) x (plainly s (record { state = s; outs = outs }) refl (same (items s)) plain) g

  pub steps_go : {A : Type 0} (step : S → A → Stepped S Effect) → ((s : S) (x : A) → Goes losses J S items number s (step s x)) → (s : S) (xs : List A)
      → Goes losses J S items number s (steps step s xs)
  steps_go step each s [] = rests s
  steps_go step each s (x ∷ xs) =
      then_goes s (step s x) (steps step (step s x).state xs) (each s x) (steps_go step each (step s x).state xs)

  -- what is taken where a test holds
  pub if_goes : (t : Bool) (s : S) (d : Stepped S Effect) → Goes losses J S items number s d → Goes losses J S items number s (cond t d (still s))
  if_goes t s d g = by_test (Goes losses J S items number s) t d (still s) (λ _. g) (λ _. rests s)

-- an item of this number has begun: the number of the node stays, and this is done of the items
pub record Opens (losses : Losses) (J K : Answer → Type 0) (S : Type 0) (items : S → Items) (number : S → ℕ) (item : ℕ) (s : S) (d : Stepped S Effect)
    : Type 0 where
  pub its_number : number d.state ≡ number s
  pub begun : Begun losses J K (items s) item d.outs (items d.state)

-- what an event makes of it: its number stays, and this is made of its items
pub record Turned (losses : Losses) (J K : Answer → Type 0) (S : Type 0) (items : S → Items) (number : S → ℕ) (what : Do) (s : S) (d : Stepped S Effect)
    : Type 0 where
  pub its_number : number d.state ≡ number s
  pub event : Event losses J K (items s) what d.outs (items d.state)

module _ {losses : Losses} {J K : Answer → Type 0} {S : Type 0} {items : S → Items} {number : S → ℕ} (what : Do) where
  pub unmoved : (s : S) → Turned losses J K S items number what s (still s)
  unmoved s = record { its_number = refl; event = GoesOn (Last (Stays (same (items s)) tt)) }

pub busy_prompt : (a : Answer) → IsBusy a → IsPrompt a
busy_prompt answer.Busy busy = tt
busy_prompt _ busy = absurd busy
