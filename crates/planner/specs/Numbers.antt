-- What the C functions owe: the answer of a call as numbers, and beside a file's verdict the network as one struct.
-- Assumes nothing.
use Rattle.std.specs.Prelude.{ℕ, ◌≡◌, List}
use Rattle.lfa.specs.Question.{Question, work_area, route_buffer}
use Rattle.lfa.specs.Answer.{answer_to, exit_of}
use Rattle.network_file.specs.declared.network.Network as file
use Rattle.numbers.specs.Numbers.{numbers_of}
use Rattle.numbers.specs.declared.Numbers.{Numbers}
use Rattle.planner.specs.declared.LoadedNetwork.{LoadedNetwork}

-- the numbers of a file's verdict, and the network beside them
unfoldable pub loaded_as : Numbers → file.Network → LoadedNetwork
loaded_as answer net =
    record {
      kind = answer.kind;
      number = answer.number;
      value = answer.value;
      routers = net.links.routers;
      links = net.links.links;
      prefixes = net.links.prefixes;
      from = net.links.from;
      to = net.links.to;
      out = net.links.out;
      back = net.links.back;
      attached = net.attached;
      at = net.at;
      own = net.own;
    }

-- the network by itself
unfoldable pub network_in : LoadedNetwork → file.Network
network_in loaded =
    record {
      links = record {
        routers = loaded.routers;
        links = loaded.links;
        prefixes = loaded.prefixes;
        from = loaded.from;
        to = loaded.to;
        out = loaded.out;
        back = loaded.back;
      };
      attached = loaded.attached;
      at = loaded.at;
      own = loaded.own;
    }

-- What a C function owes for a question: its answer as numbers, and what each lent buffer holds at exit.
pub record Numbered (q : Question) (r : Numbers) (area area_after : List ℕ) : Type 0 where
  pub numbers_are : r ≡ numbers_of (answer_to q)
  pub area_is : area_after ≡ exit_of q work_area area

pub record NumberedRouteWith (q : Question) (r : Numbers) (buffer buffer_after : List ℕ) : Type 0 where
  pub numbers_are : r ≡ numbers_of (answer_to q)
  pub buffer_is : buffer_after ≡ exit_of q route_buffer buffer

pub record NumberedRoute (q : Question) (r : Numbers) (area area_after buffer buffer_after : List ℕ) : Type 0 where
  pub numbered : Numbered q r area area_after
  pub buffer_is : buffer_after ≡ exit_of q route_buffer buffer
