-- The numbers of the messages that leave pipes: a number stands there as often as messages of it
-- leave. Pipes of the same number do alike, so nothing is asked of pipes' numbers.
use Rattle.std.specs.Prelude.{ℕ, ◌==◌, List, [], ◌++◌, map, sum_by, Option, if◌then◌else◌}
use Rattle.std.specs.List.{flat_map}
use Rattle.std.specs.Option.{option_map, option_to_list}
use Rattle.bus_words.specs.Bus.{Item, Pipe, Subscription, Sending, verdict}
use Rattle.bus_words.specs.Pipes.{dropped_at, is_queued}

-- the number of a message, if there is one
abbrev pub number_in : Option Item → List ℕ
number_in item = option_to_list (option_map (λ i. i.number) item)

-- the numbers of all messages of a pipe: of those that wait, then of the one received last
abbrev pub numbers_on : Pipe → List ℕ
numbers_on pipe = map (λ item. item.number) pipe.queue ++ number_in pipe.last

-- the numbers of all messages of the pipe of this number
abbrev pub numbers_at : ℕ → List Pipe → List ℕ
numbers_at number pipes =
    flat_map (λ pipe. if pipe.number == number then numbers_on pipe else []) pipes

-- the numbers of all messages of an application's pipes
abbrev pub numbers_of : ℕ → List Pipe → List ℕ
numbers_of app pipes =
    flat_map (λ pipe. if pipe.owner == app then numbers_on pipe else []) pipes

-- the number of the message received last from the pipe of this number
abbrev pub last_at : ℕ → List Pipe → List ℕ
last_at number pipes =
    flat_map (λ pipe. if pipe.number == number then number_in pipe.last else []) pipes

-- the number of the message that a pipe drops if a subscription of its own is offered what is
-- sent
abbrev pub dropped_on : Sending → Subscription → Pipe → List ℕ
dropped_on sending sub pipe =
    number_in (dropped_at (verdict pipe sub sending.sender) pipe.queue)

-- the numbers of the messages that a subscription's pipe drops if it is offered what is sent
abbrev pub dropped_from : Sending → Subscription → List Pipe → List ℕ
dropped_from sending sub pipes =
    flat_map (λ pipe. if pipe.number == sub.pipe then dropped_on sending sub pipe else []) pipes

-- 1 if a pipe queues what a subscription of its own is offered
abbrev pub joined_on : Sending → Subscription → Pipe → ℕ
joined_on sending sub pipe = if is_queued (verdict pipe sub sending.sender) then 1 else 0

-- how many pipes queue what a subscription is offered
abbrev pub joined_to : Sending → Subscription → List Pipe → ℕ
joined_to sending sub pipes =
    sum_by (λ pipe. if pipe.number == sub.pipe then joined_on sending sub pipe else 0) pipes
