-- The numbers own nothing, so they may go to another thread.
use denote.Param.Send.{IsSend}
use Rattle.told.specs.contracts.own_numbers.OwnNumbers.{the_row}

pub send : IsSend the_row
send = record { owned = λ d vs. ((λ vss. (tt, ((λ uss. (tt, tt)), tt))), tt); leaving = λ k f vs. tt }
