-- News for applications that wait: a look would be answered.
use Rattle.std.specs.Prelude.{◌&&◌, ◌||◌, not, Bool, true, false, List}
use Rattle.std.specs.List.{list_any, list_all}
use Rattle.bus_words.specs.Bus.{Pipe, State, Standing, Active, Waiting, Ended, is_empty, is_idle}

-- whether an application that stands so waits
abbrev pub is_waiting : Standing → Bool
is_waiting Active = false
is_waiting (Waiting pipe) = true
is_waiting Ended = false

-- whether an application that stands so waits on a pipe that has a message
abbrev pub has_message : List Pipe → Standing → Bool
has_message pipes Active = false
has_message pipes (Waiting pipe) = not (is_empty pipes pipe)
has_message pipes Ended = false

-- whether some waiting application would be answered if it looked now: with a message, or with a
-- time-out, since every application has ended or waits on an empty pipe
abbrev pub has_news : State → Bool
has_news s =
    list_any (has_message s.pipes) s.standings ||
    (list_any is_waiting s.standings && list_all (is_idle s.pipes) s.standings)
