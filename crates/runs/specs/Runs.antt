-- Runs: what has come leads to a session's state, and what then holds.
use Rattle.std.specs.Prelude.{◌≡◌, ℕ, ◌<◌, max, true, false, cond, ◌↔◌, List, [], ◌∷◌, ◌++◌, map, is_ok, Some, Ok, Err, Result, ◌≢◌}
use Rattle.codes.specs.Refusals.{Returned}
use Rattle.feed.specs.Layout.{LaidPacket, LaidHeartbeat}
use Rattle.kinds.specs.Meaning.{Meaning}
use Rattle.runs.specs.Taking.{Numbered, takes}
use Rattle.runs.specs.Watching.{Watched}
use Rattle.messages.specs.Symbols.{among}
use Rattle.runs.specs.States.{Packet, State, View, starts, arrived, heard, looked}
use Rattle.runs.specs.Publisher.{In, Honest, messages_of, of_series, published}

-- what came and was not refused
pub data Arrival : Type 0 where
  packet : Packet → Arrival
  heartbeat : ℕ → Arrival

-- the messages of a series that have come, in order
abbrev pub brought : List ℕ → List Arrival → List Numbered
brought x [] = []
brought x (packet p ∷ rest) = of_series x (messages_of p) ++ brought x rest
brought x (heartbeat n ∷ rest) = brought x rest

-- the series that a session watches
abbrev pub watch_list : State → List (List ℕ)
watch_list s = map (λ (w : Watched). w.symbol) s.slots

-- What has come leads to a state: from the packet 1 that starts the session, whatever it was before, by packets of that
-- session and heartbeats, in any order. (A refused call leaves the state as it is.)
pub data Run (K : Meaning) (sent : List Packet) (watch : List (List ℕ)) : List Arrival → State → Type 0 where
  begun : {p : Packet} {t : State} (s : State) → In p sent → p.number ≡ 1 → starts s p ≡ true → watch_list s ≡ watch → t ≡ arrived K s p → Run K sent watch (packet p ∷ []) t
  deliver : {came : List Arrival} {s t : State} {p : Packet} → Run K sent watch came s → In p sent → t ≡ arrived K s p → Run K sent watch (came ++ (packet p ∷ [])) t
  hear : {came : List Arrival} {s t : State} (n : ℕ) → Run K sent watch came s → t ≡ heard s n → Run K sent watch (came ++ (heartbeat n ∷ [])) t

-- how a session came to a state
pub record History (K : Meaning) (s : State) : Type 0 where
  pub sent : List Packet
  pub honest : Honest K sent
  pub watch : List (List ℕ)
  pub came : List Arrival
  pub run : Run K sent watch came s

-- the last number that the taking rule reaches over some messages
abbrev pub reached : Meaning → ℕ → List Numbered → ℕ
reached K n [] = n
reached K n (m ∷ ms) = reached K (cond (takes K n m) m.number n) ms

-- the highest number among some messages, 0 if there are none
abbrev pub highest : List Numbered → ℕ
highest [] = 0
highest (m ∷ ms) = max m.number (highest ms)

-- a message of the series with a higher number has come
abbrev pub HigherCame : List ℕ → ℕ → List Arrival → Type 0
HigherCame x n came = (m : Numbered) × In m (brought x came) × (n < m.number)

-- What a look at a watched series shows.
pub record Truth {K : Meaning} {s : State} (h : History K s) (x : List ℕ) (v : View) : Type 0 where
  -- the last number that the rules give over what has come
  pub last : v.last ≡ reached K 0 (brought x h.came)
  -- the publisher's record after that number
  pub shown : v.shown ≡ published K h.sent x v.last
  -- stale exactly when a higher number has come
  pub stale : (v.mark ≡ true) ↔ HigherCame x v.last h.came
  -- marked current, the publisher's record after the highest number that has come
  pub current : v.mark ≡ false → v.shown ≡ published K h.sent x (highest (brought x h.came))

abbrev pub Shows : {K : Meaning} {s : State} → History K s → List ℕ → Result View Returned → Type 0
Shows h x (Ok v) = Truth h x v
Shows h x (Err r) = ⊥

-- A look at a watched series is not refused and shows what is true; and any other run under the kind that brings the
-- series the same messages in the same order has the same answer.
pub record LookLaw (K : Meaning) (s : State) (x : List ℕ) (answer : Result View Returned) : Type 0 where
  pub true_look : (h : History K s) → among x h.watch ≡ true → Shows h x answer
  pub alike : (h : History K s) (t : State) (k : History K t) → among x h.watch ≡ true → among x k.watch ≡ true → brought x h.came ≡ brought x k.came → answer ≡ looked t x

-- What an honest session sends is accepted, and the run goes on with it.
pub record DeliverLaw (K : Meaning) (s : State) (bytes : List ℕ) (answer : Result ℕ Returned) (t : State) : Type 0 where
  -- a packet of the session
  pub sent : (h : History K s) (p : Packet) → In p h.sent → LaidPacket s.subscription bytes p.number p.contents →
      (is_ok answer ≡ true) × Run K h.sent h.watch (h.came ++ (packet p ∷ [])) t
  -- a heartbeat
  pub beat : (h : History K s) (n : ℕ) → LaidHeartbeat s.subscription bytes n →
      (is_ok answer ≡ true) × Run K h.sent h.watch (h.came ++ (heartbeat n ∷ [])) t
  -- packet 1 of any honest session, at any time; where it starts a session, that is a run of it over the watch list
  pub opening : (sent : List Packet) (honest : Honest K sent) (p : Packet) → In p sent → p.number ≡ 1 → LaidPacket s.subscription bytes p.number p.contents →
      (is_ok answer ≡ true) × ((s.stamp ≢ Some honest.stamp) → Run K sent (watch_list s) (packet p ∷ []) t)
  -- subscription and watch list stay
  pub subscription : t.subscription ≡ s.subscription
  pub watch : watch_list t ≡ watch_list s
