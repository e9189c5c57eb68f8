-- The acts of every run are legal: the history of the world is the one that the acts make, and the laws say the rest. And what is told of steps after others.
use Rattle.std.proofs.Common.{◌≡◌, ℕ, Bool, true, refl, sym, ap, subst, ◌∙◌, List, [], ◌∷◌, ◌++◌, append-nil, append_assoc, max, arith}
use Rattle.std.proofs.lemmas.Bool.{true≢false}
use Rattle.std.proofs.lemmas.Bool.Decides.{nat_tests}
use Rattle.token_protocol.specs.World.{World, start, flying_row}
use Rattle.token_protocol.specs.Acts.{Act, History, LegalActs, LegalFrom, LegalFell, LegalBack, no_history, after_act, history_after, history}
use Rattle.token_protocol.specs.Crashing.{MayCrashDirty}
use Rattle.token_protocol.specs.Told.{tells, told}
use Rattle.token_protocol.specs.Step.{Step, Steps}
use Rattle.token_protocol.specs.Step.Step.{WritesFirst, Writes, Reads, Syncs, CrashesDirty, RestartsAdopting, RestartsDiscarding, Loses}
use Rattle.token_protocol.specs.Step.Steps.{Done, More}
use Rattle.token_protocol.proofs.Invariant.{Invariant, keeps, begins}
use Rattle.token_protocol.proofs.Laws.{dirty_leads, falls_legal, returns_legal}

-- Steps, and then others.
pub steps_through : {logs : Bool} (w v u : World) → Steps logs w v → Steps logs v u → Steps logs w u
steps_through w v u s Done = s
steps_through w v u s (More {v = x} t step) = More (steps_through w v x s t) step

-- The history that the acts made is the world's.
pub record Agrees (h : History) (newest : ℕ) (value_at : ℕ → ℕ) (writer : ℕ → ℕ) (pinned : ℕ) (fallen : ℕ → ℕ) (low : ℕ → ℕ) (high : ℕ → ℕ) : Type 0 where
  pub length : h.length ≡ newest
  pub values : (v : ℕ) → h.value_at v ≡ value_at v
  pub writers : (v : ℕ) → h.writer v ≡ writer v
  pub pin : h.pinned ≡ pinned
  pub falls : (c : ℕ) → h.fallen c ≡ fallen c
  pub lows : (c : ℕ) → h.low c ≡ low c
  pub highs : (c : ℕ) → h.high c ≡ high c

abbrev pub Matches : History → World → Type 0
Matches h w = Agrees h w.newest w.value_at w.writer w.pinned w.fallen w.cut_low w.cut_high

-- Acts after others make of a history what they make of the one that those made.
pub history_through : (acts more : List Act) (h : History) → history_after (acts ++ more) h ≡ history_after more (history_after acts h)
history_through [] more h = refl
history_through (act ∷ acts) more h = history_through acts more (after_act act h)

-- They are legal after those where they are legal in that one.
legal_through : (acts more : List Act) (h : History) → LegalFrom h acts → LegalFrom (history_after acts h) more → LegalFrom h (acts ++ more)
legal_through [] more h legal rest = rest
legal_through (act ∷ acts) more h legal rest = (legal.0, legal_through acts more (after_act act h) legal.1 rest)

-- Acts that are legal in a history, and make of it the world's.
record Legal (h : History) (acts : List Act) (w : World) : Type 0 where
  matches : Matches (history_after acts h) w
  legal : LegalFrom h acts

-- A fall is legal in the history that the acts made, since it is in the world's.
fall : (w : World) (who : ℕ) (h : History) → Invariant w → Matches h w → MayCrashDirty w who
    → LegalFell h who (w.client who).settled (max (w.client who).settled (flying_row w who).version)
fall w who h i m may =
    let law = falls_legal w i who may in
    record {
      some = grind (arith, (dirty_leads w i who may.dirty).ahead, m.length);
      own = grind (arith, law.newest_mine, m.writers w.newest, m.length);
      pinned = grind (arith, nat_tests, law.cut.pinned, m.pin);
      ordered = grind arith;
      known = grind (arith, nat_tests, law.cut.known, m.length);
    }

-- So is a return: while its client is fallen, what it fell to stays.
back : (w : World) (who : ℕ) (h : History) → Invariant w → Matches h w → LegalBack h who
back w who h i m =
    let law = returns_legal w i who in
    record {
      ordered = λ fell. grind (arith, law (grind (arith, m.falls who)), m.lows who, m.highs who);
      known = λ fell. grind (arith, law (grind (arith, m.falls who)), m.highs who, m.length);
    }

-- What a step tells is legal in the world's history.
legal_step : (w v : World) (step : Step true w v) (past : History) → Invariant w → Matches past w → Legal past (tells w v step) v
legal_step w v (WritesFirst taken value h) past i m = record { matches = grind (arith, nat_tests); legal = (tt, tt) }
legal_step w v (Writes who value h) past i m = record { matches = grind (arith, nat_tests); legal = (tt, tt) }
legal_step w v (Reads who h) past i m = record {
  matches = grind (arith, nat_tests);
  legal = (
    record {
      newest = grind (
        arith,
        i.content.versions.held_version who h.holds,
        m.length,
      );
      text = grind (
        arith,
        i.content.values.held_value who h.holds,
        m.length,
        m.values w.newest,
      );
    },
    tt,
  );
}
legal_step w v (Syncs who version h) past i m = record { matches = grind (arith, nat_tests); legal = (tt, tt) }
legal_step w v (CrashesDirty who h) past i m = record { matches = grind (arith, nat_tests); legal = (fall w who past i m h, tt) }
legal_step w v (RestartsAdopting who incarnation promised h k) past i m = record { matches = grind (arith, nat_tests); legal = (back w who past i m, tt) }
legal_step w v (RestartsDiscarding who incarnation promised h) past i m = record { matches = grind (arith, nat_tests); legal = (back w who past i m, tt) }
legal_step w v (Loses x h) past i m = absurd (true≢false h)
legal_step w v step past i m = record { matches = m; legal = tt }

legal_steps : (w v : World) (steps : Steps true w v) (h : History) → Invariant w → Matches h w → Legal h (told w v steps) v × Invariant v
legal_steps w v Done h i m = (record { matches = m; legal = tt }, i)
legal_steps w v (More {v = x} steps step) h i m =
    let before = legal_steps w x steps h i m in
    let acts = told w x steps in
    let last = legal_step x v step (history_after acts h) before.1 before.0.matches in (
      record {
        matches = subst (λ (now : History). Matches now v) (sym (history_through acts (tells x v step) h)) last.matches;
        legal = legal_through acts (tells x v step) h before.0.legal last.legal;
      },
      keeps x v step before.1,
    )

opening : (n : ℕ) → Matches no_history (start n)
opening n = record { length = refl; values = λ v. refl; writers = λ v. refl; pin = refl; falls = λ c. refl; lows = λ c. refl; highs = λ c. refl }

-- The history that the acts of a run made is that of the world to which it came.
pub acts_match : (n : ℕ) (w : World) (steps : Steps true (start n) w) → Matches (history (told (start n) w steps)) w
acts_match n w steps = (legal_steps (start n) w steps no_history (begins n) (opening n)).0.matches

pub acts_legal : (n : ℕ) (w : World) (steps : Steps true (start n) w) → LegalActs (told (start n) w steps)
acts_legal n w steps = (legal_steps (start n) w steps no_history (begins n) (opening n)).0.legal

-- What steps after others tell stands after what those told.
pub told_through : (logs : Bool) (w v u : World) (first : Steps logs w v) (then_ : Steps logs v u)
    → told w u (steps_through w v u first then_) ≡ told w v first ++ told v u then_
unfolding steps_through
told_through logs w v u first Done = sym (append-nil (told w v first))
told_through logs w v u first (More {v = x} steps step) =
    ap (λ acts. acts ++ tells x u step) (told_through logs w v x first steps) ∙ append_assoc (told w v first) (told v x steps) (tells x u step)
