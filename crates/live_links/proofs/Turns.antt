-- What a turn adds to a journal.
use Rattle.std.proofs.Common.{◌≡◌, refl, sym, ap, subst, ◌∙◌, ℕ, zero, suc, ◌+◌, ◌≤◌, Bool, true, false, cond, ◌&&◌, ◌||◌, List, [], ◌∷◌, ◌++◌, length, map, take, Option, Some, None, ◌⊎◌, inl, inr, arith, append_assoc, append-nil, length-append}
use Rattle.std.specs.Prelude.{slice_get}
use Rattle.std.specs.List.{Contains, count_by}
use Rattle.std.proofs.lemmas.List.Sums.{sum_by-append}
use Rattle.std.proofs.lemmas.Option.{same_Some, slice_get_within}
use Rattle.std.proofs.lemmas.List.Elements.{Contains-push_cases}
use Rattle.wire_msg.specs.declared.packet.Do.{Do}
use Rattle.wire_msg.specs.declared.packet.Do.TheVariants.{Begin}
use Rattle.wire_msg.specs.declared.packet.Packet.{Packet}
use Rattle.wire_msg.specs.Kinds.{is_begin}
use Rattle.wire_msg.specs.NodeStep.{NodeStep}
use Rattle.xfs_base.specs.declared.node.NodeId.{NodeId}
use Rattle.xfs_base.proofs.Booleans.{and_first, and_second, equal_itself}
use Rattle.world_base.specs.declared.due.Due.{Due}
use Rattle.world_base.specs.NextWorld.{clock_after, sent_at}
use Rattle.journals.specs.declared.answers.Answers.{Answers}
use Rattle.journals.specs.declared.moment.Moment.{Moment}
use Rattle.journals.specs.Answers.{AreKnown, IsSettled, has_answer, answers_advance}
use Rattle.journals.specs.Journals.{MayBegin, MeetsDues, acts_in, begins, is_some_of, is_stamped, last_clock, replayed, sent_in, told_by, what_at, whats}
use Rattle.journals.proofs.Gets.{get_left, get_right, get_snoc, none_in, place_of}
use Rattle.journals.proofs.Keeping.{told_more}
use Rattle.journals.proofs.Known.{known_more}
use Rattle.live_links.specs.declared.letter.Letter.{Letter}
use Rattle.live_links.specs.Ends.{letters_of}
use Rattle.live_links.specs.Acts.{AfterTurn, turned, turned_at}
use Rattle.live_links.specs.Facts.{IsJournal, IsSentBy}

-- a letter has the number of its packet
letter_is : (from n : ℕ) (xs : List Packet) (k : ℕ) (l : Letter) → slice_get (letters_of from n xs) k ≡ Some l
    → (l.from ≡ from) × (l.number ≡ n + k) × (slice_get xs k ≡ Some l.packet)
letter_is from n [] k l got = absurd (cc)
letter_is from n (x ∷ xs) zero l got =
    let e : record { from = from; number = n; packet = x } ≡ l = same_Some (record { from = from; number = n; packet = x }) l got in
    (sym (ap (λ (m : Letter). m.from) e), sym (ap (λ (m : Letter). m.number) e) ∙ (omega arith), ap (λ (m : Letter). Some m.packet) e)
letter_is from n (x ∷ xs) (suc k) l got =
    let h = letter_is from (n + 1) xs k l got in
    let number = h.1 in
    (h.0, omega arith, h.2)

pub count_by-append : {X : Type 0} (test : X → Bool) (xs ys : List X) → count_by test (xs ++ ys) ≡ count_by test xs + count_by test ys
count_by-append test xs ys = sum_by-append (λ x. cond (test x) 1 0) xs ys

map_length : {X Y : Type 0} (f : X → Y) (xs : List X) → length (map f xs) ≡ length xs
map_length f [] = refl
map_length f (x ∷ xs) = ap suc (map_length f xs)

pub whats_length : (ms : List Moment) → length (whats ms) ≡ length ms
whats_length ms = map_length what_at ms

pub whats_more : (ms : List Moment) (m : Moment) → whats (ms ++ m ∷ []) ≡ whats ms ++ m.what ∷ []
whats_more [] m = refl
whats_more (x ∷ ms) m = ap (λ ds. x.what ∷ ds) (whats_more ms m)

last_more : (c : ℕ) (ms : List Moment) (m : Moment) → last_clock c (ms ++ m ∷ []) ≡ m.clock
last_more c [] m = refl
last_more c (x ∷ ms) m = last_more x.clock ms m

-- a moment that says what was sent and done
told_is : {N : Type 0} (done : NodeStep N) (m : Moment) → m.packets ≡ map (sent_at m.clock) done.packets → m.acts ≡ done.acts → told_by done m ≡ m
told_is done m sent acts = ap (λ xs. record m { packets = xs; acts = done.acts }) (sym sent) ∙ ap (λ ys. record m { packets = m.packets; acts = ys }) (sym acts)

and_true : (a b : Bool) → a ≡ true → b ≡ true → (a && b) ≡ true
and_true true b e f = f
and_true false b e f = e

stamped_more : (c : ℕ) (ms : List Moment) (m : Moment) → is_stamped c ms ≡ true → clock_after (last_clock c ms) m.what ≡ Some m.clock → is_stamped c (ms ++ m ∷ []) ≡ true
stamped_more c [] m s next = and_true (is_some_of m.clock (clock_after c m.what)) true (ap (is_some_of m.clock) next ∙ equal_itself m.clock) refl
stamped_more c (x ∷ ms) m s next =
    let now = is_some_of x.clock (clock_after c x.what) in
    let later = is_stamped x.clock ms in
    and_true now (is_stamped x.clock (ms ++ m ∷ [])) (and_first now later s) (stamped_more x.clock ms m (and_second now later s) next)

take_front : {X : Type 0} (xs : List X) (y : X) (k : ℕ) → k ≤ length xs → take k (xs ++ y ∷ []) ≡ take k xs
take_front xs y zero le = refl
take_front [] y (suc k) le = absurd (omega arith)
take_front (x ∷ xs) y (suc k) le = ap (λ zs. x ∷ zs) (take_front xs y k (omega arith))

take_whole : {X : Type 0} (xs : List X) → take (length xs) xs ≡ xs
take_whole [] = refl
take_whole (x ∷ xs) = ap (λ zs. x ∷ zs) (take_whole xs)

abbrev pub after_turn : List Moment → List Letter → AfterTurn
after_turn moments letters = record { moments = moments; letters = letters }

module _ {N : Type 0} (step : N → Do → NodeStep N) where
  replayed_more : (n : N) (ds : List Do) (d : Do) → replayed step n (ds ++ d ∷ []) ≡ (step (replayed step n ds) d).node
  replayed_more n [] d = refl
  replayed_more n (e ∷ ds) d = replayed_more (step n e).node ds d

  pub acts_more : (n : N) (ds : List Do) (d : Do) → acts_in step n (ds ++ d ∷ []) ≡ acts_in step n ds ++ (step (replayed step n ds) d).acts
  acts_more n [] d = append-nil (step n d).acts
  acts_more n (e ∷ ds) d =
      ap (λ xs. (step n e).acts ++ xs) (acts_more (step n e).node ds d)
      ∙ sym (append_assoc (step n e).acts (acts_in step (step n e).node ds) (step (replayed step (step n e).node ds) d).acts)

  sent_more : (n : N) (ms : List Moment) (m : Moment)
      → sent_in step n (ms ++ m ∷ []) ≡ sent_in step n ms ++ map (sent_at m.clock) (step (replayed step n (whats ms)) m.what).packets
  sent_more n [] m = append-nil (map (sent_at m.clock) (step n m.what).packets)
  sent_more n (e ∷ ms) m =
      let front = map (sent_at e.clock) (step n e.what).packets in
      ap (λ xs. front ++ xs) (sent_more (step n e.what).node ms m)
      ∙ sym (append_assoc front (sent_in step (step n e.what).node ms) (map (sent_at m.clock) (step (replayed step (step n e.what).node (whats ms)) m.what).packets))

  module _ (node : NodeId) (first : N) (dues : List Due) where
    met_more : (ds : List Do) (d : Do) → MeetsDues step node first dues ds → (d ≡ Begin → MayBegin step node first dues ds) → MeetsDues step node first dues (ds ++ d ∷ [])
    met_more ds d met due =
        λ k got. elim (get_snoc ds d Begin k got) [
          | inl there ↦
              let within = slice_get_within ds k Begin there in
              subst (λ before. MayBegin step node first dues before) (sym (take_front ds d k (omega arith))) (met k there)
          | inr end ↦
              let e = end.0 in
              let whole : take k (ds ++ d ∷ []) ≡ ds = take_front ds d k (omega arith) ∙ ap (λ j. take j ds) e ∙ take_whole ds in
              subst (λ before. MayBegin step node first dues before) (sym whole) (due end.1)
        ]

    -- a journal to which nothing happened yet
    pub journal_none : (ms : List Moment) (n : N) (answers : Answers) → ms ≡ [] → n ≡ first → ((k : ℕ) → answers_advance answers k ≡ false)
        → IsJournal step node first dues ms n 0 0 answers 0
    journal_none ms n answers none is unknown =
        let j : IsJournal step node first dues [] n 0 0 answers 0 = record {
          replay = is;
          stamped = refl;
          last = refl;
          begins_are = refl;
          known = unknown;
          settled = unknown (answers.all + 1);
          sent_are = refl;
          told = refl;
          met = λ k got. absurd (cc);
        }
        in
        subst (λ (all : List Moment). IsJournal step node first dues all n 0 0 answers 0) (sym none) j

    module _ (ms : List Moment) (n : N) (clock begun : ℕ) (answers : Answers) (count : ℕ) (j : IsJournal step node first dues ms n clock begun answers count) where
      -- what the journal says of one thing more that happens is so
      told_now : (m : Moment) (done : NodeStep N) → done ≡ step n m.what → m.packets ≡ map (sent_at m.clock) done.packets → m.acts ≡ done.acts
          → told_by (step (replayed step first (whats ms)) m.what) m ≡ m
      told_now m done is sent acts =
          let stepped : done ≡ step (replayed step first (whats ms)) m.what = is ∙ ap (λ x. step x m.what) j.replay in
          subst (λ d. told_by d m ≡ m) stepped (told_is done m sent acts)

      -- and one to which one thing more happened
      journal_more : (m : Moment) (done : NodeStep N) (more : Answers) → clock_after clock m.what ≡ Some m.clock → (m.what ≡ Begin → MayBegin step node first dues (whats ms))
          → done ≡ step n m.what → m.packets ≡ map (sent_at m.clock) done.packets → m.acts ≡ done.acts → ((k : ℕ) → answers_advance more k ≡ (answers_advance answers k || has_answer node k done.acts)) → IsSettled more
          → IsJournal step node first dues (ms ++ m ∷ []) done.node m.clock (begun + begins (m.what ∷ [])) more (count + length done.packets)
      journal_more m done more next due is sends does known settled =
          let stepped : done ≡ step (replayed step first (whats ms)) m.what = is ∙ ap (λ x. step x m.what) j.replay in
          let acts : (step (replayed step first (whats ms)) m.what).acts ≡ done.acts = sym (ap (λ (x : NodeStep N). x.acts) stepped) in
          let packets : (step (replayed step first (whats ms)) m.what).packets ≡ done.packets = sym (ap (λ (x : NodeStep N). x.packets) stepped) in
          let w = whats_more ms m in
          let all : acts_in step first (whats (ms ++ m ∷ [])) ≡ acts_in step first (whats ms) ++ done.acts =
          ap (acts_in step first) w ∙ acts_more first (whats ms) m.what ∙ ap (λ xs. acts_in step first (whats ms) ++ xs) acts
          in
          record {
            replay = ap (λ (x : NodeStep N). x.node) stepped ∙ sym (ap (replayed step first) w ∙ replayed_more first (whats ms) m.what);
            stamped = stamped_more 0 ms m j.stamped (ap (λ k. clock_after k m.what) (sym j.last) ∙ next);
            last = sym (last_more 0 ms m);
            begins_are = ap (λ k. k + begins (m.what ∷ [])) j.begins_are ∙ sym (ap begins w ∙ count_by-append is_begin (whats ms) (m.what ∷ []));
            known = subst (AreKnown node more) (sym all) (known_more node answers more (acts_in step first (whats ms)) done.acts j.known known);
            settled = settled;
            sent_are =
                ap (λ k. k + length done.packets) j.sent_are
                ∙ sym (ap length (sent_more first ms m)
                ∙ length-append (sent_in step first ms) (map (sent_at m.clock) (step (replayed step first (whats ms)) m.what).packets)
                ∙ ap (λ k. length (sent_in step first ms) + k) (map_length (sent_at m.clock) (step (replayed step first (whats ms)) m.what).packets ∙ ap length packets));
            told = told_more step first ms m j.told (told_now m done is sends does);
            met = subst (MeetsDues step node first dues) (sym w) (met_more (whats ms) m.what j.met due);
          }

      pub journal_next : (m : Moment) (done : NodeStep N) (more : Answers) (new : List Moment) (begun' count' : ℕ) → clock_after clock m.what ≡ Some m.clock
          → (m.what ≡ Begin → MayBegin step node first dues (whats ms)) → done ≡ step n m.what → m.packets ≡ map (sent_at m.clock) done.packets → m.acts ≡ done.acts
          → ((k : ℕ) → answers_advance more k ≡ (answers_advance answers k || has_answer node k done.acts)) → IsSettled more → new ≡ ms ++ m ∷ [] → begun' ≡ begun + begins (m.what ∷ []) → count' ≡ count + length done.packets
          → IsJournal step node first dues new done.node m.clock begun' more count'
      journal_next m done more new begun' count' next due is sends does known settled e f g =
          let k = journal_more m done more next due is sends does known settled in
          rw (e, f, g) k

      -- the turn itself
      pub turned_next : (place : ℕ) (m : Moment) (done : NodeStep N) (letters : List Letter) (new : List Moment) → clock_after clock m.what ≡ Some m.clock
          → done ≡ step n m.what → m.packets ≡ map (sent_at m.clock) done.packets → m.acts ≡ done.acts → letters ≡ letters_of place count m.packets → new ≡ ms ++ m ∷ []
          → after_turn new letters ≡ turned step first place m.what m.from m.number ms
      turned_next place m done letters new next is sends does are e =
          let sent = map (sent_at m.clock) (step (replayed step first (whats ms)) m.what).packets in
          let told = told_now m done is sends does in
          let same : m.packets ≡ sent = sym (ap (λ (k : Moment). k.packets) told) in
          let all : letters ≡ letters_of place (length (sent_in step first ms)) sent =
          are ∙ ap (letters_of place count) same ∙ ap (λ k. letters_of place k sent) j.sent_are
          in
          let now : clock_after (last_clock 0 ms) m.what ≡ Some m.clock = ap (λ k. clock_after k m.what) (sym j.last) ∙ next in
          ap (λ ms'. after_turn ms' letters) e ∙ ap (after_turn (ms ++ m ∷ [])) all
          ∙ ap (λ k. after_turn (ms ++ k ∷ []) (letters_of place (length (sent_in step first ms)) sent)) (sym told)
          ∙ sym (ap (turned_at step first place m.what m.from m.number ms) now)

      -- where the clock would pass its end
      pub turned_none : (place : ℕ) (what : Do) (from number : ℕ) (letters : List Letter) → clock_after clock what ≡ None → letters ≡ []
          → after_turn ms letters ≡ turned step first place what from number ms
      turned_none place what from number letters past none =
          let now : clock_after (last_clock 0 ms) what ≡ None = ap (λ k. clock_after k what) (sym j.last) ∙ past in
          ap (after_turn ms) none ∙ sym (ap (turned_at step first place what from number ms) now)

  module _ (first : N) (place : ℕ) (what : Do) (from number : ℕ) (ms : List Moment) where
    -- what a turn adds to a journal
    pub record Adds (after : List Moment) (letters : List Letter) : Type 0 where
      pub sends : (l : Letter) → Contains letters l → IsSentBy step first place after l
      pub kept : (k : ℕ) (x : Packet) → slice_get (sent_in step first ms) k ≡ Some x → slice_get (sent_in step first after) k ≡ Some x
      pub came : (m : Moment) → Contains after m → Contains ms m ⊎ ((m.what ≡ what) × (m.from ≡ from) × (m.number ≡ number))

    adds_at : (clock : Option ℕ) → Adds (turned_at step first place what from number ms clock).moments (turned_at step first place what from number ms clock).letters
    adds_at None = record {
      sends = λ l found. absurd (none_in [] l refl found);
      kept = λ k x got. got;
      came = λ m found. inl found;
    }
    adds_at (Some clock) =
        let now = map (sent_at clock) (step (replayed step first (whats ms)) what).packets in
        let m : Moment = record {
          clock = clock;
          what = what;
          from = from;
          number = number;
          packets = now;
          acts = (step (replayed step first (whats ms)) what).acts;
        }
        in
        let count = length (sent_in step first ms) in
        let all : sent_in step first (ms ++ m ∷ []) ≡ sent_in step first ms ++ now = sent_more first ms m in
        record {
          sends = λ l found.
              let at = place_of (letters_of place count now) l found in
              let h = letter_is place count now at.0 l at.1 in (
                h.0,
                subst (λ xs. slice_get xs l.number ≡ Some l.packet) (sym all)
                    (subst (λ k. slice_get (sent_in step first ms ++ now) k ≡ Some l.packet) (sym h.1) (get_right (sent_in step first ms) now at.0 l.packet h.2)),
              );
          kept = λ k x got. subst (λ xs. slice_get xs k ≡ Some x) (sym all) (get_left (sent_in step first ms) now k x got);
          came = λ y found. elim (Contains-push_cases ms m y found) [
            | inl before ↦ inl before
            | inr same ↦ inr (ap what_at (sym same), ap (λ (z : Moment). z.from) (sym same), ap (λ (z : Moment). z.number) (sym same))
          ];
        }

    pub adds : (after : List Moment) (letters : List Letter) → after_turn after letters ≡ turned step first place what from number ms → Adds after letters
    adds after letters is = subst (λ (t : AfterTurn). Adds t.moments t.letters) (sym is) (adds_at (clock_after (last_clock 0 ms) what))
