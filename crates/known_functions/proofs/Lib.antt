mod HostNames
