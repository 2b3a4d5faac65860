-- Send numbers belong to the pipes and the unsent buffers that name them, and leave with them.
use Rattle.std.specs.Prelude.{◌≡◌, ℕ, ◌+◌, ◌==◌, List, [], ◌∷◌, ◌++◌, count_by, sum_by, All, if◌then◌else◌}
use Rattle.std.specs.List.{flat_map}
use Rattle.bus_words.specs.Bus.{Pipe, Buffer, Subscription, Sending, with_pipe, offered}
use Rattle.bus_words.specs.Held.{named_by, items_of, buffers_in}
use Rattle.list_pipes.specs.Leaving.{dropped_from, joined_to}
use Rattle.list_messages.specs.Sends.{Use, use_at, names_of}

-- how often pipes and unsent buffers name a number
abbrev pub named_in : List Pipe → List (List Buffer) → ℕ → ℕ
named_in pipes unsent number =
    sum_by (named_by number) pipes +
    count_by (λ buffer. buffer.number == number) (buffers_in unsent)

-- each number is named so often as it is recorded, and the size of each item and each buffer is the
-- one first asked for under its number
pub record IsTied (uses : List Use) (pipes : List Pipe) (unsent : List (List Buffer)) : Type 0 where
  pub named : (number : ℕ) → names_of uses number ≡ named_in pipes unsent number
  pub items : All (λ item. item.asked ≡ (use_at uses item.number).asked) (items_of pipes)
  pub buffers : All (λ buffer. buffer.size ≡ (use_at uses buffer.number).asked)
      (buffers_in unsent)

-- the numbers of the messages that leave pipes if each of these subscriptions is offered what is
-- sent, in order
abbrev pub dropped_by : Sending → List Subscription → List Pipe → List ℕ
dropped_by sending [] pipes = []
dropped_by sending (sub ∷ subs) pipes =
    dropped_from sending sub pipes ++
    dropped_by sending subs (with_pipe (offered sending sub) sub.pipe pipes)

-- how many pipes queue it then
abbrev pub joined_by : Sending → List Subscription → List Pipe → ℕ
joined_by sending [] pipes = 0
joined_by sending (sub ∷ subs) pipes =
    joined_to sending sub pipes +
    joined_by sending subs (with_pipe (offered sending sub) sub.pipe pipes)

-- a number, as often as one of these buffers has it
abbrev pub numbers_left : ℕ → List Buffer → List ℕ
numbers_left number buffers =
    flat_map (λ buffer. if buffer.number == number then buffer.number ∷ [] else []) buffers
