pub mod ProgramDemand3
